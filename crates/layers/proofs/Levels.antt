-- What the two passes compute, each layer of the one a step later. The first has the step at which the best way on from a cell ends: of
-- several ways the best ends first. The second has, where that is `last`, how often the best way moves: of the ways that end there the best
-- moves least. No end and no number of moves comes near 255, which stands for none. Assumes nothing.
use Prim.Native.Nat.{ℕ, zero, suc, ◌+◌, min, max, ◌≤◌, ◌<◌}
use native.Mathlib.Omega.{arith}
use native.Mathlib.Decide.{ℕ_discrete}
use mathlib.Core.Path.{◌≡◌, refl, sym, ap, subst, ◌∙◌}
use mathlib.Core.Logic.{◌⊎◌, inl, inr}
use mathlib.Core.Bool.{Bool, true, false, not, ◌&&◌}
use mathlib.Core.List.{List, [], ◌∷◌, map, Memᴰ}
use mathlib.Core.Option.{Option, none, some}
use lib.Dec.{eqb}
use lib.ListN.{length}
use borrow.Author.Tests.{eqb-true, eqb-false, eq-eqb, ne_eqb}
use Rattle.lists.proofs.Ranges.{map_same}
use Rattle.routes.specs.Route.{cell_of, step_cost, cost}
use Rattle.routes.specs.Best.{moved, moves, outdone, preferred, better, best_of, in_front, best_way}
use Rattle.routes.proofs.Cost.{cost_least}
use Rattle.routes.proofs.Finding.{outdone-true, outdone-false, front_moves}
use Rattle.layers.specs.Fill.{one_more_than, least_of, paid_to, mark_for, rested}
use Rattle.layers.proofs.LeastLaws.{least_most}
use Rattle.layers.specs.Layers.{end_of, moves_of, moves_to}

-- ---- a fact of a way, where there is one

module _ (P : List ℕ → Type 0) where
  unfoldable pub Holds : Option (List ℕ) → Type 0
  Holds none = Unit {0}
  Holds (some r) = P r

  holds_better : (goal : ℕ) (o p : Option (List ℕ)) → Holds o → Holds p → Holds (better goal o p)
  unfolding Holds better preferred
  holds_better goal none p h k = k
  holds_better goal (some r) none h k = h
  holds_better goal (some r) (some s) h k = go (outdone goal r s)
    where
      go : (b : Bool) → P (elim b [ true ↦ s | false ↦ r ])
      go true = k
      go false = h

  holds_best : (goal : ℕ) (f : ℕ → Option (List ℕ)) (ws : List ℕ) → ((w : ℕ) → Memᴰ w ws → Holds (f w)) → Holds (best_of goal (map f ws))
  unfolding best_of Holds
  holds_best goal f [] h = tt
  holds_best goal f (w ∷ ws) h = holds_better goal (f w) (best_of goal (map f ws)) (h w (Memᴰ.head refl)) (holds_best goal f ws (λ x m. h x (Memᴰ.tail m)))

  pub holds_some : (o : Option (List ℕ)) (r : List ℕ) → Holds o → o ≡ some r → P r
  unfolding Holds
  holds_some o r h e = subst Holds e h

-- ---- what a best way is

-- a list of cells from v to the goal, n steps later
pub record Leads (goal n v : ℕ) (r : List ℕ) : Type 0 where
  pub long : length r ≡ suc n
  pub begins : cell_of r 0 ≡ v
  pub ends : cell_of r n ≡ goal

leads_front : (goal n v w : ℕ) (o : Option (List ℕ)) → Holds (Leads goal n w) o → Holds (Leads goal (suc n) v) (in_front v o)
unfolding Holds in_front
leads_front goal n v w none h = tt
leads_front goal n v w (some r) h = record { long = ap suc h.long; begins = refl; ends = h.ends }

-- it costs at most n, and moves at most n times
pub leads_cheap : (goal n v : ℕ) (r : List ℕ) → Leads goal n v r → cost goal r ≤ n
leads_cheap goal n v r h = (cost_least goal n r (omega (arith, h.long)) h.ends).within

moved_most : (v w : ℕ) → moved v w ≤ 1
unfolding moved
moved_most v w = go (eqb v w)
  where
    go : (b : Bool) → elim b [ true ↦ 0 | false ↦ 1 ] ≤ 1
    go true = omega arith
    go false = omega arith

moves_short : (n : ℕ) (r : List ℕ) → length r ≡ suc n → moves r ≤ n
unfolding moves
moves_short n [] e = omega arith
moves_short n (v ∷ []) e = omega arith
moves_short zero (v ∷ w ∷ r) e = absurd (omega arith)
moves_short (suc n) (v ∷ w ∷ r) e = omega (arith, moved_most v w, moves_short n (w ∷ r) (omega arith))

pub leads_few : (goal n v : ℕ) (r : List ℕ) → Leads goal n v r → moves r ≤ n
leads_few goal n v r h = moves_short n r h.long

-- a way that costs nothing is on the goal at every step, so it does not move
free_rest : (goal v : ℕ) (r : List ℕ) → cost goal (v ∷ r) ≡ 0 → (v ≡ goal) × (cost goal r ≡ 0)
unfolding cost step_cost
free_rest goal v r e = go (eqb v goal) (cost goal r) refl e
  where
    go : (b : Bool) (c : ℕ) → eqb v goal ≡ b → step_cost b c ≡ 0 → (v ≡ goal) × (c ≡ 0)
    go true zero q e = (eqb-true v goal q, refl)
    go true (suc c) q e = absurd (omega arith)
    go false c q e = absurd (omega arith)

pub some_left : (goal : ℕ) (r : List ℕ) → cost goal r ≡ 0 → moves r ≡ 0
unfolding moves moved
some_left goal [] e = refl
some_left goal (v ∷ []) e = refl
some_left goal (v ∷ w ∷ r) e =
    let (here, rest) = free_rest goal v (w ∷ r) e in
    let (there, _) = free_rest goal w r rest in
    let still : moved v w ≡ 0 = rw (moved, eq-eqb v w (here ∙ sym there)) in
    omega (arith, some_left goal (w ∷ r) rest)

-- ---- the least of several

module _ (f : ℕ → ℕ) where
  pub least_below : (w : ℕ) (ws : List ℕ) → Memᴰ w ws → least_of (map f ws) ≤ f w
  unfolding least_of
  least_below w [] m = elim m [ ]
  least_below w (x ∷ ws) (Memᴰ.head e) = let q : f w ≡ f x = ap f e in omega arith
  least_below w (x ∷ ws) (Memᴰ.tail m) = omega (arith, least_below w ws m)

  pub least_above : (a : ℕ) → a ≤ 255 → ((w : ℕ) → a ≤ f w) → (ws : List ℕ) → a ≤ least_of (map f ws)
  unfolding least_of
  least_above a h k [] = omega arith
  least_above a h k (w ∷ ws) = omega (arith, k w, least_above a h k ws)

-- ---- ends

module _ (goal t : ℕ) where
  end_better : (o p : Option (List ℕ)) → end_of goal t o ≤ 255 → end_of goal t p ≤ 255 → end_of goal t (better goal o p) ≡ min (end_of goal t o) (end_of goal t p)
  unfolding end_of better preferred
  end_better none p h k = omega arith
  end_better (some r) none h k = omega arith
  end_better (some r) (some s) h k = go (outdone goal r s) refl
    where
      second : (cost goal s < cost goal r) ⊎ ((cost goal s ≡ cost goal r) × (moves s < moves r)) → t + cost goal s ≡ min (t + cost goal r) (t + cost goal s)
      second (inl l) = omega arith
      second (inr l) = omega (arith, l.0)

      first : (cost goal r < cost goal s) ⊎ ((cost goal s ≡ cost goal r) × (moves r ≤ moves s)) → t + cost goal r ≡ min (t + cost goal r) (t + cost goal s)
      first (inl l) = omega arith
      first (inr l) = omega (arith, l.0)

      go : (b : Bool) → outdone goal r s ≡ b → t + cost goal (elim b [ true ↦ s | false ↦ r ]) ≡ min (t + cost goal r) (t + cost goal s)
      go true e = second (outdone-true goal r s e)
      go false e = first (outdone-false goal r s e)

  -- the best of several ways ends first
  end_best : (f : ℕ → Option (List ℕ)) → ((w : ℕ) → end_of goal t (f w) ≤ 255) → (ws : List ℕ) → end_of goal t (best_of goal (map f ws)) ≡ least_of (map (λ w. end_of goal t (f w)) ws)
  unfolding end_of best_of least_of
  end_best f h [] = refl
  end_best f h (w ∷ ws) =
      let rest = end_best f h ws in
      let low : end_of goal t (best_of goal (map f ws)) ≤ 255 = omega (arith, rest, least_most (map (λ w. end_of goal t (f w)) ws)) in
      rw (end_better (f w) (best_of goal (map f ws)) (h w) low, rest)

  -- one step more in front of a way ends it no later: it ends at t where all of it is on the goal
  end_front : (v : ℕ) → t ≤ 63 → (o : Option (List ℕ)) → end_of goal t (in_front v o) ≡ rested false goal t v (end_of goal (suc t) o)
  unfolding end_of in_front cost step_cost rested
  end_front v h none = go (eqb v goal) (eqb 255 (t + 1)) (ne_eqb 255 (t + 1) (λ e. absurd (omega arith)))
    where
      go : (a b : Bool) → b ≡ false → ◌≡◌ {A = ℕ} 255 (elim (a && b) [ true ↦ t | false ↦ 255 ])
      go true b e = rw e
      go false b e = refl
  end_front v h (some r) = go (eqb v goal) (cost goal r)
    where
      go : (b : Bool) (c : ℕ) → t + step_cost b c ≡ elim (b && eqb (suc t + c) (t + 1)) [ true ↦ t | false ↦ suc t + c ]
      go true zero = rw (eq-eqb (suc t + 0) (t + 1) (omega arith)) (omega arith)
      go true (suc c) = rw (ne_eqb (suc t + suc c) (t + 1) (λ e. absurd (omega arith))) (omega arith)
      go false c = omega arith

  -- a way that does not end at t ends where the rest of it does
  pub end_on : (v : ℕ) (o : Option (List ℕ)) → t < end_of goal t (in_front v o) → end_of goal t (in_front v o) ≡ end_of goal (suc t) o
  unfolding end_of in_front cost step_cost
  end_on v none h = refl
  end_on v (some r) h = go (eqb v goal) (cost goal r) h
    where
      go : (b : Bool) (c : ℕ) → t < t + step_cost b c → t + step_cost b c ≡ suc t + c
      go true zero h = absurd (omega arith)
      go true (suc c) h = omega arith
      go false c h = omega arith

  rested-min : (v a b : ℕ) → suc t ≤ a → suc t ≤ b → min (rested false goal t v a) (rested false goal t v b) ≡ rested false goal t v (min a b)
  unfolding rested
  rested-min v a b h k = go (eqb v goal) (eqb a (t + 1)) (eqb b (t + 1)) (eqb (min a b) (t + 1)) refl refl refl
    where
      go : (c x y z : Bool) → eqb a (t + 1) ≡ x → eqb b (t + 1) ≡ y → eqb (min a b) (t + 1) ≡ z → min (elim (c && x) [ true ↦ t | false ↦ a ]) (elim (c && y) [ true ↦ t | false ↦ b ]) ≡ elim (c && z) [ true ↦ t | false ↦ min a b ]
      go true x y true e f g = let m = eqb-true (min a b) (t + 1) g in ended x y e f m
        where
          ended : (x y : Bool) → eqb a (t + 1) ≡ x → eqb b (t + 1) ≡ y → min a b ≡ t + 1 → min (elim x [ true ↦ t | false ↦ a ]) (elim y [ true ↦ t | false ↦ b ]) ≡ t
          ended true true e f m = omega arith
          ended true false e f m = omega arith
          ended false true e f m = omega arith
          ended false false e f m = absurd (omega (arith, eqb-false a (t + 1) e, eqb-false b (t + 1) f))
      go true true y false e f g = absurd (omega (arith, eqb-true a (t + 1) e, eqb-false (min a b) (t + 1) g))
      go true false true false e f g = absurd (omega (arith, eqb-true b (t + 1) f, eqb-false (min a b) (t + 1) g))
      go true false false false e f g = refl
      go false x y z e f g = refl

  rested_least : (v : ℕ) → t ≤ 63 → (f : ℕ → ℕ) → ((w : ℕ) → suc t ≤ f w) → (ws : List ℕ) → least_of (map (λ w. rested false goal t v (f w)) ws) ≡ rested false goal t v (least_of (map f ws))
  unfolding least_of end_of in_front
  rested_least v h f k [] = end_front v h none
  rested_least v h f k (w ∷ ws) = rw (rested_least v h f k ws) (rested-min v (f w) (least_of (map f ws)) (k w) (least_above f (suc t) (omega arith) k ws))

  pub end_least : (o : Option (List ℕ)) → t ≤ 255 → t ≤ end_of goal t o
  unfolding end_of
  end_least none h = h
  end_least (some r) h = omega arith

  end_low : (n v : ℕ) → t + n ≤ 63 → (o : Option (List ℕ)) → Holds (Leads goal n v) o → end_of goal t o ≤ 255
  unfolding end_of Holds
  end_low n v h none k = omega arith
  end_low n v h (some r) k = omega (arith, leads_cheap goal n v r k)

-- ---- moves

paid_more : (v w m : ℕ) → m ≤ 254 → paid_to true v w m ≡ moved v w + m
unfolding paid_to moved one_more_than
paid_more v w m h = go (eqb v w)
  where
    go : (b : Bool) → elim (not b) [ true ↦ min m 254 + 1 | false ↦ m ] ≡ elim b [ true ↦ 0 | false ↦ 1 ] + m
    go true = omega arith
    go false = omega arith

paid_none : (v w : ℕ) → paid_to true v w 255 ≡ 255
unfolding paid_to one_more_than
paid_none v w = go (eqb v w)
  where
    go : (b : Bool) → ◌≡◌ {A = ℕ} (elim (not b) [ true ↦ 255 | false ↦ 255 ]) 255
    go true = refl
    go false = refl

mark_here : (last e : ℕ) → e ≡ last → mark_for true last e ≡ 0
unfolding mark_for
mark_here last e h = rw (mark_for, eq-eqb e last h)

mark_other : (last e : ℕ) → (e ≡ last → ⊥) → mark_for true last e ≡ 255
unfolding mark_for
mark_other last e h = rw (mark_for, ne_eqb e last h)

module _ (goal last t : ℕ) where
  pub moves_here : (o : Option (List ℕ)) → end_of goal t o ≡ last → moves_to goal last t o ≡ moves_of o
  unfolding moves_to
  moves_here o e = rw (moves_to, eq-eqb (end_of goal t o) last e)

  pub moves_other : (o : Option (List ℕ)) → (end_of goal t o ≡ last → ⊥) → moves_to goal last t o ≡ 255
  unfolding moves_to
  moves_other o n = rw (moves_to, ne_eqb (end_of goal t o) last n)

  -- a way that ends at `last` or later
  record Late (r : List ℕ) : Type 0 where
    late : last ≤ t + cost goal r
    few : moves r ≤ 254

  leads_late : (n v : ℕ) → n ≤ 63 → (o : Option (List ℕ)) → Holds (Leads goal n v) o → last ≤ end_of goal t o → Holds Late o
  unfolding Holds end_of
  leads_late n v h none k l = tt
  leads_late n v h (some r) k l = record { late = l; few = omega (arith, leads_few goal n v r k) }

  moves_low : (o : Option (List ℕ)) → Holds Late o → moves_to goal last t o ≤ 255
  unfolding moves_to moves_of end_of Holds
  moves_low none h = go (eqb 255 last)
    where
      go : (b : Bool) → elim b [ true ↦ 255 | false ↦ 255 ] ≤ 255
      go true = omega arith
      go false = omega arith
  moves_low (some r) h = go (eqb (end_of goal t (some r)) last)
    where
      go : (b : Bool) → elim b [ true ↦ moves r | false ↦ 255 ] ≤ 255
      go true = omega (arith, h.few)
      go false = omega arith

  -- of two such ways the better one has the fewer of the moves that count
  moves_won : (r s : List ℕ) → Late r → (cost goal r < cost goal s) ⊎ ((cost goal r ≡ cost goal s) × (moves r ≤ moves s)) → moves_to goal last t (some r) ≤ moves_to goal last t (some s)
  unfolding Holds end_of moves_of
  moves_won r s h (inl l) = omega (arith, moves_low (some r) h, moves_other (some s) (λ e. absurd (omega (arith, h.late))))
  moves_won r s h (inr l) =
      elim (ℕ_discrete (t + cost goal s) last) [
        | yes e ↦ let d : t + cost goal r ≡ last = omega (arith, l.0) in omega (arith, l.1, moves_here (some r) d, moves_here (some s) e)
        | no n ↦ omega (arith, moves_low (some r) h, moves_other (some s) n)
      ]

  moves_better : last ≤ 63 → (o p : Option (List ℕ)) → Holds Late o → Holds Late p → moves_to goal last t (better goal o p) ≡ min (moves_to goal last t o) (moves_to goal last t p)
  unfolding better preferred end_of Holds
  moves_better l none p h k = omega (arith, moves_other none (λ e. absurd (omega arith)), moves_low p k)
  moves_better l (some r) none h k = omega (arith, moves_other none (λ e. absurd (omega arith)), moves_low (some r) h)
  moves_better l (some r) (some s) h k = go (outdone goal r s) refl
    where
      second : (cost goal s < cost goal r) ⊎ ((cost goal s ≡ cost goal r) × (moves s < moves r)) → moves_to goal last t (some s) ≤ moves_to goal last t (some r)
      second (inl l) = moves_won s r k (inl l)
      second (inr l) = moves_won s r k (inr (l.0, omega (arith, l.1)))

      first : (cost goal r < cost goal s) ⊎ ((cost goal s ≡ cost goal r) × (moves r ≤ moves s)) → moves_to goal last t (some r) ≤ moves_to goal last t (some s)
      first (inl l) = moves_won r s h (inl l)
      first (inr l) = moves_won r s h (inr (sym l.0, l.1))

      go : (b : Bool) → outdone goal r s ≡ b → moves_to goal last t (some (elim b [ true ↦ s | false ↦ r ])) ≡ min (moves_to goal last t (some r)) (moves_to goal last t (some s))
      go true e = omega (arith, second (outdone-true goal r s e))
      go false e = omega (arith, first (outdone-false goal r s e))

  moves_best : last ≤ 63 → (f : ℕ → Option (List ℕ)) (ws : List ℕ) → ((w : ℕ) → Memᴰ w ws → Holds Late (f w)) → moves_to goal last t (best_of goal (map f ws)) ≡ least_of (map (λ w. moves_to goal last t (f w)) ws)
  unfolding best_of least_of end_of
  moves_best l f [] h = moves_other none (λ e. absurd (omega arith))
  moves_best l f (w ∷ ws) h =
      let rest : (x : ℕ) → Memᴰ x ws → Holds Late (f x) = λ x m. h x (Memᴰ.tail m) in
      rw (moves_better l (f w) (best_of goal (map f ws)) (h w (Memᴰ.head refl)) (holds_best Late goal f ws rest), moves_best l f ws rest)

  -- one step more in front of a way: it ends where it did, with one move more where the step moves
  moves_front : (n v w : ℕ) → n ≤ 63 → t < last → (o : Option (List ℕ)) → Holds (Leads goal n w) o → last ≤ end_of goal t (in_front v o) → moves_to goal last t (in_front v o) ≡ paid_to true v w (moves_to goal last (suc t) o)
  unfolding moves_to moves_of in_front Holds
  moves_front n v w h l o k late = ap {B = ℕ} (λ e. elim (eqb e last) [ true ↦ moves_of (in_front v o) | false ↦ 255 ]) (end_on goal t v o (omega arith)) ∙ front_moved o (eqb (end_of goal (suc t) o) last) k
    where
      front_moved : (o : Option (List ℕ)) (b : Bool) → Holds (Leads goal n w) o → elim b [ true ↦ moves_of (in_front v o) | false ↦ 255 ] ≡ paid_to true v w (elim b [ true ↦ moves_of o | false ↦ 255 ])
      front_moved none true k = sym (paid_none v w)
      front_moved none false k = sym (paid_none v w)
      front_moved (some r) true k = front_moves v w r (omega (arith, k.long)) k.begins ∙ sym (paid_more v w (moves r) (omega (arith, leads_few goal n w r k)))
      front_moved (some r) false k = sym (paid_none v w)

-- ---- the two passes

module _ (stand : ℕ → ℕ → Bool) (turn : ℕ → ℕ → List ℕ) (goal : ℕ) where
  abbrev way : ℕ → ℕ → ℕ → Option (List ℕ)
  way n t v = best_way stand turn goal n t v

  -- the way from v by w
  abbrev pub way_by : ℕ → ℕ → ℕ → ℕ → Option (List ℕ)
  way_by n t v w = in_front v (way n (suc t) w)

  pub way_leads : (n t v : ℕ) → Holds (Leads goal n v) (way n t v)
  unfolding best_way Holds
  way_leads zero t v = go (stand t v) (eqb v goal) refl
    where
      go : (a b : Bool) → eqb v goal ≡ b → Holds (Leads goal 0 v) (elim (a && b) [ true ↦ some (v ∷ []) | false ↦ none ])
      go true true e = record { long = refl; begins = refl; ends = eqb-true v goal e }
      go true false e = tt
      go false b e = tt
  way_leads (suc n) t v = go (stand t v) (holds_best (Leads goal (suc n) v) goal (way_by n t v) (turn t v) (λ w m. leads_front goal n v w (way n (suc t) w) (way_leads n (suc t) w)))
    where
      go : (b : Bool) → Holds (Leads goal (suc n) v) (best_of goal (map (way_by n t v) (turn t v))) → Holds (Leads goal (suc n) v) (elim b [ true ↦ best_of goal (map (way_by n t v) (turn t v)) | false ↦ none ])
      go true h = h
      go false h = tt

  by_leads : (n t v w : ℕ) → Holds (Leads goal (suc n) v) (way_by n t v w)
  by_leads n t v w = leads_front goal n v w (way n (suc t) w) (way_leads n (suc t) w)

  -- a way that ends in time stands where it is, so it is the best of those that go on
  pub way_on : (n t v : ℕ) → end_of goal t (way (suc n) t v) ≤ 63 → way (suc n) t v ≡ best_of goal (map (way_by n t v) (turn t v))
  unfolding best_way end_of
  way_on n t v h = go (stand t v) h
    where
      go : (b : Bool) → end_of goal t (elim b [ true ↦ best_of goal (map (way_by n t v) (turn t v)) | false ↦ none ]) ≤ 63 → ◌≡◌ {A = Option (List ℕ)} (elim b [ true ↦ best_of goal (map (way_by n t v) (turn t v)) | false ↦ none ]) (best_of goal (map (way_by n t v) (turn t v)))
      go true h = refl
      go false h = absurd (omega arith)

  -- ---- the first pass

  pub end_last : (t v : ℕ) → end_of goal t (way 0 t v) ≡ elim (stand t v && eqb v goal) [ true ↦ t | false ↦ 255 ]
  unfolding best_way end_of cost step_cost
  end_last t v = go (stand t v) (eqb v goal) refl
    where
      go : (a b : Bool) → eqb v goal ≡ b → end_of goal t (elim (a && b) [ true ↦ some (v ∷ []) | false ↦ none ]) ≡ elim (a && b) [ true ↦ t | false ↦ 255 ]
      go true true e = rw e (omega arith)
      go true false e = refl
      go false b e = refl

  end_ways : (n t v : ℕ) → t + suc n ≤ 63 → end_of goal t (best_of goal (map (way_by n t v) (turn t v))) ≡ least_of (map (λ w. end_of goal t (way_by n t v w)) (turn t v))
  end_ways n t v h = end_best goal t (way_by n t v) (λ w. end_low goal t (suc n) v h (way_by n t v w) (by_leads n t v w)) (turn t v)

  pub end_step : (n t v : ℕ) → t + suc n ≤ 63 → end_of goal t (way (suc n) t v) ≡ elim (stand t v) [ true ↦ rested false goal t v (least_of (map (λ w. paid_to false v w (end_of goal (suc t) (way n (suc t) w))) (turn t v))) | false ↦ 255 ]
  unfolding best_way paid_to end_of
  end_step n t v h = go (stand t v)
    where
      go : (b : Bool) → end_of goal t (elim b [ true ↦ best_of goal (map (way_by n t v) (turn t v)) | false ↦ none ]) ≡ elim b [ true ↦ rested false goal t v (least_of (map (λ w. end_of goal (suc t) (way n (suc t) w)) (turn t v))) | false ↦ 255 ]
      go true =
          end_ways n t v h
          ∙ ap least_of (map_same (λ w. end_of goal t (way_by n t v w)) (λ w. rested false goal t v (end_of goal (suc t) (way n (suc t) w))) (turn t v) (λ w m. end_front goal t v (omega arith) (way n (suc t) w)))
          ∙ rested_least goal t v (omega arith) (λ w. end_of goal (suc t) (way n (suc t) w)) (λ w. end_least goal (suc t) (way n (suc t) w) (omega arith)) (turn t v)
      go false = refl

  -- ---- the second pass

  -- a way that ends at once is on the goal at every step, so it has no moves
  still : (n last v : ℕ) → last ≤ 63 → (o : Option (List ℕ)) → Holds (Leads goal n v) o → moves_to goal last last o ≡ elim (eqb v goal) [ true ↦ mark_for true last (end_of goal last o) | false ↦ 255 ]
  unfolding Holds end_of moves_of
  still n last v h o k = elim (ℕ_discrete (end_of goal last o) last) [ yes e ↦ ended o k e | no m ↦ moves_other goal last last o m ∙ other (eqb v goal) (mark_for true last (end_of goal last o)) (mark_other last (end_of goal last o) m) ]
    where
      other : (b : Bool) (m : ℕ) → m ≡ 255 → ◌≡◌ {A = ℕ} 255 (elim b [ true ↦ m | false ↦ 255 ])
      other true m e = sym e
      other false m e = refl

      ended : (o : Option (List ℕ)) → Holds (Leads goal n v) o → end_of goal last o ≡ last → moves_to goal last last o ≡ elim (eqb v goal) [ true ↦ mark_for true last (end_of goal last o) | false ↦ 255 ]
      ended none k e = absurd (omega arith)
      ended (some []) k e = absurd (omega (arith, k.long))
      ended (some (x ∷ r)) k e =
          let free : cost goal (x ∷ r) ≡ 0 = omega arith in
          let here : v ≡ goal = sym k.begins ∙ (free_rest goal x r free).0 in
          rw (eq-eqb v goal here) (moves_here goal last last (some (x ∷ r)) e ∙ some_left goal (x ∷ r) free ∙ sym (mark_here last (end_of goal last (some (x ∷ r))) e))

  pub moves_last : (n last v : ℕ) → last ≤ 63 → moves_to goal last last (way n last v) ≡ elim (eqb v goal) [ true ↦ mark_for true last (end_of goal last (way n last v)) | false ↦ 255 ]
  moves_last n last v h = still n last v h (way n last v) (way_leads n last v)

  -- where the best way ends at `last`, later than t, no way by another cell ends before
  module _ (n t v last : ℕ) (long : t + suc n ≤ 63) (before : t < last) (short : last ≤ 63) (ends : end_of goal t (way (suc n) t v) ≡ last) where
    ends_late : (w : ℕ) → Memᴰ w (turn t v) → last ≤ end_of goal t (way_by n t v w)
    ends_late w m = omega (arith, ap (end_of goal t) (way_on n t v (omega arith)), end_ways n t v long, least_below (λ x. end_of goal t (way_by n t v x)) w (turn t v) m)

    by_late : (w : ℕ) → Memᴰ w (turn t v) → Holds (Late goal last t) (way_by n t v w)
    by_late w m = leads_late goal last t (suc n) v (omega arith) (way_by n t v w) (by_leads n t v w) (ends_late w m)

    pub by_moves : (w : ℕ) → Memᴰ w (turn t v) → moves_to goal last t (way_by n t v w) ≡ paid_to true v w (moves_to goal last (suc t) (way n (suc t) w))
    by_moves w m = moves_front goal last t n v w (omega arith) before (way n (suc t) w) (way_leads n (suc t) w) (ends_late w m)

    moves_ways : moves_to goal last t (way (suc n) t v) ≡ least_of (map (λ w. paid_to true v w (moves_to goal last (suc t) (way n (suc t) w))) (turn t v))
    moves_ways =
        ap (moves_to goal last t) (way_on n t v (omega arith))
        ∙ moves_best goal last t short (way_by n t v) (turn t v) by_late
        ∙ ap least_of (map_same (λ w. moves_to goal last t (way_by n t v w)) (λ w. paid_to true v w (moves_to goal last (suc t) (way n (suc t) w))) (turn t v) by_moves)

  pub moves_step : (n t v last : ℕ) → t < last → t + suc n ≤ 63 → last ≤ 63 → moves_to goal last t (way (suc n) t v) ≡ max (mark_for true last (end_of goal t (way (suc n) t v))) (least_of (map (λ w. paid_to true v w (moves_to goal last (suc t) (way n (suc t) w))) (turn t v)))
  moves_step n t v last l h k =
      elim (ℕ_discrete (end_of goal t (way (suc n) t v)) last) [
        | yes e ↦ omega (arith, moves_ways n t v last h l k e, mark_here last (end_of goal t (way (suc n) t v)) e)
        | no m ↦
            omega (arith, moves_other goal last t (way (suc n) t v) m, mark_other last (end_of goal t (way (suc n) t v)) m, least_most (map (λ w. paid_to true v w (moves_to goal last (suc t) (way n (suc t) w))) (turn t v)))
      ]

  -- ---- bounds

  pub end_most : (n t v : ℕ) → (end_of goal t (way n t v) ≤ t + n) ⊎ (end_of goal t (way n t v) ≡ 255)
  unfolding Holds end_of
  end_most n t v = go (way n t v) (way_leads n t v)
    where
      go : (o : Option (List ℕ)) → Holds (Leads goal n v) o → (end_of goal t o ≤ t + n) ⊎ (end_of goal t o ≡ 255)
      go none h = inr refl
      go (some r) h = inl (omega (arith, leads_cheap goal n v r h))
