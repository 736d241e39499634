-- What a pass does beside filling a layer: it lays the marks, begins on the goal, and ends a way that rests there. Assumes nothing.
use Prim.Native.Nat.{ℕ, ◌+◌, ◌-◌, max, ◌≤◌, ◌<◌}
use native.Mathlib.Omega.{arith}
use native.Mathlib.Decide.{ℕ_discrete}
use mathlib.Core.Path.{◌≡◌, refl, sym, ap, ◌∙◌}
use mathlib.Core.Bool.{Bool, true, false, true≢false, ◌&&◌}
use mathlib.Core.List.{List, ◌++◌}
use mathlib.Core.Logic.{◌⊎◌, inl, inr}
use lib.Dec.{eqb}
use lib.ListN.{length, get_or, set, replicate, take, drop, length-set, length-replicate, get_or-replicate}
use lib.Seq.{get_or-set_same, get_or-set_other}
use Rattle.std.proofs.lemmas.List.{get_or-append_right, get_or_append_left, get_or-take, get_or-drop, length-append, length-take, length-drop}
use borrow.Author.Tests.{eq-eqb, ne_eqb}
use Rattle.lent.specs.Made.{Made}
use Rattle.lent.proofs.MadeLaws.{made_same}
use Rattle.layers.specs.Fill.{IsHalf, Pads, Copied, arrival, rested, ArrivalLaid, RestLaid}
use Rattle.layers.proofs.LayerLaws.{half_small, pads_kept}

-- ---- marks

-- ---- where the pass begins

module _ (goal level rest : ℕ) (shut : ℕ → ℕ) where
  pub arrival_here : (mark : ℕ) → arrival goal level rest shut goal mark ≡ max level (max mark (shut goal))
  unfolding arrival
  arrival_here mark = rw (arrival, eq-eqb goal goal refl)

  pub arrival_away : (v mark : ℕ) → (v ≡ goal → ⊥) → arrival goal level rest shut v mark ≡ max rest (max mark (shut v))
  unfolding arrival
  arrival_away v mark k = rw (arrival, ne_eqb v goal k)

  pub arrival_same : (shut' : ℕ → ℕ) (v mark : ℕ) → shut v ≡ shut' v → arrival goal level rest shut v mark ≡ arrival goal level rest shut' v mark
  unfolding arrival
  arrival_same shut' v mark e = ap (λ x. max (elim (eqb v goal) [ true ↦ level | false ↦ rest ]) (max mark x)) e

-- a slate with nothing on it
blank_at : (slate : List ℕ) → slate ≡ replicate 576 255 → (x : ℕ) → x < 576 → get_or slate x 0 ≡ 255
blank_at slate e x h = rw e (get_or-replicate 576 x 255 0 h)

pub blank_long : (slate : List ℕ) → slate ≡ replicate 576 255 → length slate ≡ 576
blank_long slate e = ap length e ∙ length-replicate {A = ℕ} 576 255

blank_pads : (n : ℕ) (slate : List ℕ) → slate ≡ replicate 576 255 → Pads n slate
unfolding IsHalf
blank_pads n slate e =
    record { above = λ from x i h. blank_at slate e (from + x) (omega (arith, half_small from i)); below = λ from x i l h. blank_at slate e (from + x) (omega (arith, half_small from i)) }

-- what is written on it beside the first cells leaves its pads
laid_pads : (n : ℕ) (f : ℕ → ℕ → ℕ) (slate slate' : List ℕ) → n ≤ 256 → Pads n slate → Made 16 n f slate slate' → Pads n slate'
unfolding IsHalf
laid_pads n f slate slate' small p m =
    record { above = λ from x i h. above from x i i h ∙ p.above from x i h; below = λ from x i l h. m.over (from + x) (omega arith) ∙ p.below from x i l h }
  where
    above : (from x : ℕ) → IsHalf from → (from ≡ 0) ⊎ (from ≡ 288) → x < 16 → get_or slate' (from + x) 0 ≡ get_or slate (from + x) 0
    above from x i (inl e) h = m.under (from + x) (omega arith)
    above from x i (inr e) h = m.over (from + x) (omega arith)

module _ (goal level rest : ℕ) (shut : ℕ → ℕ) (n base : ℕ) (slate layers : List ℕ) (blank : slate ≡ replicate 576 255) (inside : goal < n) (small : n ≤ 256) (room : base + n ≤ length layers) where
  abbrev mark : ℕ → ℕ
  mark v = get_or layers (base + v) 0

  module _ (there inner : ℕ) (laid : List ℕ) (e : inner ≡ max (mark goal) (shut goal)) (k : there ≡ max level inner) (m : Made base n (λ v byte. max rest (max byte (shut v))) layers laid) where
    laid_at : (v : ℕ) → v < n → Dec (v ≡ goal) → get_or (set laid (base + goal) there) (base + v) 0 ≡ arrival goal level rest shut v (mark v)
    laid_at v h (yes q) = rw (q, arrival_here goal level rest shut (mark goal)) (get_or-set_same laid (base + goal) there 0 (omega (arith, m.long)) ∙ k ∙ ap (max level) e)
    laid_at v h (no q) = rw (arrival_away goal level rest shut v (mark v) q) (get_or-set_other laid (base + goal) (base + v) there 0 (λ p. q (omega arith)) ∙ m.made v h)

    pub arrival_laid : (slate' : List ℕ) → Made 16 n (λ v byte. get_or (set laid (base + goal) there) (base + v) 0) slate slate' → ArrivalLaid goal level rest shut n base layers slate' (set laid (base + goal) there)
    arrival_laid slate' c =
        record {
          layer =
              record {
                long = length-set laid (base + goal) there ∙ m.long;
                made = λ v h. laid_at v h (ℕ_discrete v goal);
                under = λ x h. get_or-set_other laid (base + goal) x there 0 (λ p. absurd (omega arith)) ∙ m.under x h;
                over = λ x h. get_or-set_other laid (base + goal) x there 0 (λ p. absurd (omega arith)) ∙ m.over x h;
              };
          copied = λ v h. c.made v h;
          wide = c.long ∙ blank_long slate blank;
          pads = laid_pads n (λ v byte. get_or (set laid (base + goal) there) (base + v) 0) slate slate' small (blank_pads n slate blank) c;
        }

-- ---- where a way rests

pub rested_here : (goal t : ℕ) → rested false goal t goal (t + 1) ≡ t
unfolding rested
rested_here goal t = rw (eq-eqb goal goal refl, eq-eqb (t + 1) (t + 1) refl, rested)

pub rested_away : (goal t v x : ℕ) → (v ≡ goal → ⊥) → rested false goal t v x ≡ x
unfolding rested
rested_away goal t v x k = rw (ne_eqb v goal k, rested)

rested_moves : (goal t v x : ℕ) → rested true goal t v x ≡ x
unfolding rested
rested_moves goal t v x = refl

pub rested_late : (moves : Bool) (goal t v x : ℕ) → (x ≡ t + 1 → ⊥) → rested moves goal t v x ≡ x
unfolding rested
rested_late true goal t v x k = refl
rested_late false goal t v x k = rw (ne_eqb x (t + 1) k, rested) (go (eqb v goal))
  where
    go : (b : Bool) → elim (b && false) [ true ↦ t | false ↦ x ] ≡ x
    go true = refl
    go false = refl

module _ (moves : Bool) (goal t n base from : ℕ) (slate layers : List ℕ) (copied : Copied n base from slate layers) (wide : length slate ≡ 576) where
  unrested : ((v : ℕ) → v < n → get_or layers (base + v) 0 ≡ rested moves goal t v (get_or layers (base + v) 0)) → RestLaid moves goal t n base from slate layers slate layers
  unrested same = record { layer = made_same base n (rested moves goal t) layers same; copied = copied; wide = refl; pads = λ p. p }

  pub rests_moves : moves ≡ true → RestLaid moves goal t n base from slate layers slate layers
  unfolding rested
  rests_moves e = unrested (λ v h. go moves e (get_or layers (base + v) 0) v)
    where
      go : (moves : Bool) → moves ≡ true → (x v : ℕ) → x ≡ rested moves goal t v x
      go true e x v = refl
      go false e x v = absurd (true≢false (sym e))

  pub rests_not : (get_or layers (base + goal) 0 ≡ t + 1 → ⊥) → RestLaid moves goal t n base from slate layers slate layers
  rests_not k = unrested (λ v h. go moves v (ℕ_discrete v goal))
    where
      go : (moves : Bool) (v : ℕ) → Dec (v ≡ goal) → get_or layers (base + v) 0 ≡ rested moves goal t v (get_or layers (base + v) 0)
      go moves v (yes e) = rw e (sym (rested_late moves goal t goal (get_or layers (base + goal) 0) k))
      go true v (no q) = sym (rested_moves goal t v (get_or layers (base + v) 0))
      go false v (no q) = sym (rested_away goal t v (get_or layers (base + v) 0) q)

  module _ (inside : goal < n) (small : n ≤ 256) (half : IsHalf from) (room : base + n ≤ length layers) (ends : moves ≡ false) (rests : get_or layers (base + goal) 0 ≡ t + 1) where
    low : from ≤ 288
    low = half_small from half

    made_rest : (v : ℕ) → v < n → Dec (v ≡ goal) → get_or (set layers (base + goal) t) (base + v) 0 ≡ rested false goal t v (get_or layers (base + v) 0)
    made_rest v h (yes e) = rw (e, rests, rested_here goal t) (get_or-set_same layers (base + goal) t 0 (omega arith))
    made_rest v h (no k) = rw (rested_away goal t v (get_or layers (base + v) 0) k) (get_or-set_other layers (base + goal) (base + v) t 0 (λ q. k (omega arith)))

    copied_rest : (v : ℕ) → v < n → Dec (v ≡ goal) → get_or (set slate (from + 16 + goal) t) (from + 16 + v) 0 ≡ get_or (set layers (base + goal) t) (base + v) 0
    copied_rest v h (yes e) = rw e (get_or-set_same slate (from + 16 + goal) t 0 (omega (arith, low, wide)) ∙ sym (get_or-set_same layers (base + goal) t 0 (omega arith)))
    copied_rest v h (no k) =
        get_or-set_other slate (from + 16 + goal) (from + 16 + v) t 0 (λ q. k (omega arith))
        ∙ (copied v h ∙ sym (get_or-set_other layers (base + goal) (base + v) t 0 (λ q. k (omega arith))))

    pub rests_here : RestLaid moves goal t n base from slate layers (set slate (from + 16 + goal) t) (set layers (base + goal) t)
    rests_here =
        rw ends
        (record {
          layer =
              record {
                long = length-set layers (base + goal) t;
                made = λ v h. made_rest v h (ℕ_discrete v goal);
                under = λ x h. get_or-set_other layers (base + goal) x t 0 (λ q. absurd (omega arith));
                over = λ x h. get_or-set_other layers (base + goal) x t 0 (λ q. absurd (omega arith));
              };
          copied = λ v h. copied_rest v h (ℕ_discrete v goal);
          wide = length-set slate (from + 16 + goal) t;
          pads = λ p. pads_kept n slate from goal t half inside small p;
        })

-- ---- a layer copied

module _ (p base n : ℕ) (layers slate part : List ℕ) (from : base + n ≤ length layers) (to : p + n ≤ length slate) (copy : part ≡ take n (drop base layers)) where
  first_long : length (take p slate) ≡ p
  first_long = simp length-take (omega arith)

  part_long : length part ≡ n
  part_long = ap length copy ∙ simp (length-take, length-drop) (omega arith)

  pub layer_copied : (tail : List ℕ) → tail ≡ drop (p + n) slate → Made p n (λ v byte. get_or layers (base + v) 0) slate (take p slate ++ (part ++ tail))
  layer_copied tail e =
      rw e
      record {
        long = simp (length-append, length-take, length-drop) (omega (arith, part_long));
        made = λ v h.
            let at : p + v - p ≡ v = omega arith in
            get_or-append_right (take p slate) (part ++ drop (p + n) slate) p (p + v) 0 first_long (omega arith)
            ∙ ap (λ i. get_or (part ++ drop (p + n) slate) i 0) at
            ∙ get_or_append_left part (drop (p + n) slate) 0 v (omega (arith, part_long))
            ∙ ap (λ (xs : List ℕ). get_or xs v 0) copy
            ∙ get_or-take n (drop base layers) v 0 h
            ∙ get_or-drop base layers v 0;
        under = λ x h. get_or_append_left (take p slate) (part ++ drop (p + n) slate) 0 x (omega (arith, first_long)) ∙ get_or-take p slate x 0 h;
        over = λ x h.
            let at : p + n + (x - p - n) ≡ x = omega arith in
            get_or-append_right (take p slate) (part ++ drop (p + n) slate) p x 0 first_long (omega arith)
            ∙ get_or-append_right part (drop (p + n) slate) n (x - p) 0 part_long (omega arith)
            ∙ get_or-drop (p + n) slate (x - p - n) 0
            ∙ ap (λ i. get_or slate i 0) at;
      }
