-- The best way goes on by the first of the cells it may turn to that leaves as many moves as it has: a way by a cell before it ends later
-- or has more moves, or is none. And a best way ends on the goal, so without moves it is on it all along. Assumes nothing.
use Prim.Native.Nat.{ℕ, zero, suc, ◌+◌, ◌≤◌, ◌<◌}
use native.Mathlib.Omega.{arith}
use mathlib.Core.Path.{◌≡◌, refl, sym, ap, subst, ◌∙◌}
use mathlib.Core.Logic.{◌⊎◌, inl, inr}
use mathlib.Core.Bool.{Bool, true, false}
use mathlib.Core.List.{List, [], ◌∷◌, map, Memᴰ}
use mathlib.Core.Option.{Option, none, some, some-ne-none, some-injective}
use lib.Dec.{eqb}
use lib.ListN.{length, get_or, replicate, get_or-replicate}
use borrow.Author.Tests.{eqb-true, eq-eqb, ne_eqb}
use Rattle.lists.specs.Lists.{keep}
use Rattle.lists.proofs.Ranges.{keep_first, keep_later, keep_same}
use Rattle.routes.specs.Route.{cell_of, step_cost, cost}
use Rattle.routes.specs.Best.{moved, moves, outdone, preferred, better, best_of, in_front, best_way}
use Rattle.routes.proofs.Finding.{outdone-true}
use Rattle.layers.specs.Fill.{paid_to}
use Rattle.layers.specs.Layers.{end_of, moves_of, moves_to}
use Rattle.layers.proofs.Levels.{holds_some, Leads, leads_cheap, leads_few, end_on, moves_here, moves_other, way_by, way_leads, way_on, by_moves}

-- ---- the first of several ways that is as good as the best

-- r, the best of the ways f, ends at `last`
module _ (goal last t d : ℕ) (f : ℕ → Option (List ℕ)) (r : List ℕ) (ends : t + cost goal r ≡ last) (few : moves r ≤ 254) where
  -- the first of these cells with as many moves
  abbrev first_at : List ℕ → ℕ
  first_at ws = get_or (keep (λ w. eqb (moves_to goal last t (f w)) (moves r)) ws) 0 d

  unfoldable Found : List ℕ → Type 0
  Found ws = (w : ℕ) × (first_at ws ≡ w) × (f w ≡ some r) × Memᴰ w ws

  found_here : (w : ℕ) (ws : List ℕ) → f w ≡ some r → Found (w ∷ ws)
  unfolding Found end_of moves_of
  found_here w ws e =
      let same : moves_to goal last t (f w) ≡ moves r = ap (moves_to goal last t) e ∙ moves_here goal last t (some r) ends in
      (w, keep_first (λ x. eqb (moves_to goal last t (f x)) (moves r)) w ws d (eq-eqb (moves_to goal last t (f w)) (moves r) same), e, Memᴰ.head refl)

  found_later : (w : ℕ) (ws : List ℕ) → (moves_to goal last t (f w) ≡ moves r → ⊥) → Found ws → Found (w ∷ ws)
  unfolding Found
  found_later w ws n (x, first, best, among) =
      let passed : first_at (w ∷ ws) ≡ first_at ws = ap (λ xs. get_or xs 0 d) (keep_later (λ y. eqb (moves_to goal last t (f y)) (moves r)) w ws (ne_eqb (moves_to goal last t (f w)) (moves r) n)) in
      (x, passed ∙ first, best, Memᴰ.tail among)

  -- a way that r outdoes ends later, or at `last` with more moves
  outdone_other : (x : List ℕ) → (cost goal r < cost goal x) ⊎ ((cost goal r ≡ cost goal x) × (moves r < moves x)) → moves_to goal last t (some x) ≡ moves r → ⊥
  unfolding end_of moves_of
  outdone_other x (inl l) e = absurd (omega (arith, moves_other goal last t (some x) (λ q. absurd (omega arith))))
  outdone_other x (inr l) e = let q : t + cost goal x ≡ last = omega (arith, l.0) in absurd (omega (arith, l.1, moves_here goal last t (some x) q))

  -- the first way is the best, or it is outdone and passed over
  split : last ≤ 63 → (w : ℕ) (ws : List ℕ) (o p : Option (List ℕ)) → f w ≡ o → better goal o p ≡ some r → (p ≡ some r → Found ws) → Found (w ∷ ws)
  unfolding better preferred end_of
  split l w ws none p e k rest =
      found_later w ws (λ q. absurd (omega (arith, q, ap (moves_to goal last t) e, moves_other goal last t none (λ z. absurd (omega arith))))) (rest k)
  split l w ws (some x) none e k rest = found_here w ws (e ∙ k)
  split l w ws (some x) (some y) e k rest = go (outdone goal x y) refl k
    where
      go : (b : Bool) → outdone goal x y ≡ b → some (elim b [ true ↦ y | false ↦ x ]) ≡ some r → Found (w ∷ ws)
      go true q k =
          let u : y ≡ r = some-injective y r k in
          found_later w ws (λ z. outdone_other x (subst (λ s. (cost goal s < cost goal x) ⊎ ((cost goal s ≡ cost goal x) × (moves s < moves x))) u (outdone-true goal x y q)) (sym (ap (moves_to goal last t) e) ∙ z)) (rest k)
      go false q k = found_here w ws (e ∙ k)

  best_found : last ≤ 63 → (ws : List ℕ) → best_of goal (map f ws) ≡ some r → Found ws
  unfolding best_of
  best_found l [] e = absurd (some-ne-none r (sym e))
  best_found l (w ∷ ws) e = split l w ws (f w) (best_of goal (map f ws)) refl e (best_found l ws)

-- ---- ways without moves

-- a way without moves stays on its first cell
unmoved : (r : List ℕ) → moves r ≡ 0 → r ≡ replicate (length r) (cell_of r 0)
unfolding moves moved
unmoved [] e = refl
unmoved (v ∷ []) e = refl
unmoved (v ∷ w ∷ r) e = go (eqb v w) refl e (unmoved (w ∷ r))
  where
    go : (b : Bool) → eqb v w ≡ b → elim b [ true ↦ 0 | false ↦ 1 ] + moves (w ∷ r) ≡ 0 → (moves (w ∷ r) ≡ 0 → w ∷ r ≡ replicate (suc (length r)) w) → v ∷ w ∷ r ≡ v ∷ replicate (suc (length r)) v
    go true q e rest = ap (λ s. v ∷ s) (rest (omega arith) ∙ ap (replicate (suc (length r))) (sym (eqb-true v w q)))
    go false q e rest = absurd (omega arith)

-- on the goal that costs nothing
resting : (goal n : ℕ) → cost goal (replicate n goal) ≡ 0
unfolding cost step_cost
resting goal zero = refl
resting goal (suc n) = rw (eq-eqb goal goal refl, resting goal n)

-- ---- the best way

module _ (stand : ℕ → ℕ → Bool) (turn : ℕ → ℕ → List ℕ) (goal : ℕ) where
  abbrev way : ℕ → ℕ → ℕ → Option (List ℕ)
  way n t v = best_way stand turn goal n t v

  leads : (n t v : ℕ) (r : List ℕ) → way n t v ≡ some r → Leads goal n v r
  leads n t v r e = holds_some (Leads goal n v) (way n t v) r (way_leads stand turn goal n t v) e

  pub way_long : (n t v : ℕ) (r : List ℕ) → way n t v ≡ some r → length r ≡ suc n
  way_long n t v r e = (leads n t v r e).long

  pub way_begins : (n t v : ℕ) (r : List ℕ) → way n t v ≡ some r → get_or r 0 0 ≡ v
  way_begins n t v r e = (leads n t v r e).begins

  -- a best way ends on the goal, so without moves it is on it all along
  pub none_left : (n t v : ℕ) (r : List ℕ) → way n t v ≡ some r → moves r ≡ 0 → (cost goal r ≡ 0) × (r ≡ replicate (length r) goal)
  none_left n t v r e still =
      let known = leads n t v r e in
      let first : cell_of r 0 ≡ goal = sym (ap (λ s. get_or s n 0) (unmoved r still) ∙ get_or-replicate (length r) n (cell_of r 0) 0 (omega (arith, known.long))) ∙ known.ends in
      let stays : r ≡ replicate (length r) goal = unmoved r still ∙ ap (replicate (length r)) first in
      (ap (cost goal) stays ∙ resting goal (length r), stays)

  -- the first of the cells it may turn to that leaves as many moves as the best way from v has
  abbrev pub turned_to : ℕ → ℕ → ℕ → ℕ → ℕ
  turned_to n t v last = get_or (keep (λ w. eqb (paid_to true v w (moves_to goal last (suc t) (way n (suc t) w))) (moves_to goal last t (way (suc n) t v))) (turn t v)) 0 v

  pub record Onward (n t v last : ℕ) (r : List ℕ) : Type 0 where
    pub later : List ℕ
    pub front : r ≡ v ∷ later
    pub best : way n (suc t) (turned_to n t v last) ≡ some later
    pub among : Memᴰ (turned_to n t v last) (turn t v)
    pub ends : end_of goal (suc t) (some later) ≡ last

  onward : (n t v last w : ℕ) (r : List ℕ) → t < last → end_of goal t (some r) ≡ last → turned_to n t v last ≡ w → Memᴰ w (turn t v) → (o : Option (List ℕ)) → way n (suc t) w ≡ o → in_front v o ≡ some r → Onward n t v last r
  unfolding in_front
  onward n t v last w r l e k m none q i = absurd (some-ne-none r (sym i))
  onward n t v last w r l e k m (some s) q i =
      let there : end_of goal t (in_front v (some s)) ≡ last = ap (end_of goal t) i ∙ e in
      record {
        later = s;
        front = sym (some-injective (v ∷ s) r i);
        best = ap (way n (suc t)) k ∙ q;
        among = subst (λ x. Memᴰ x (turn t v)) (sym k) m;
        ends = sym (end_on goal t v (some s) (omega arith)) ∙ there;
      }

  -- it goes on by that cell
  pub best_first : (n t v last : ℕ) (r : List ℕ) → t + suc n ≤ 63 → way (suc n) t v ≡ some r → end_of goal t (some r) ≡ last → t < last → Onward n t v last r
  unfolding end_of moves_of Found
  best_first n t v last r h q e l =
      let known = leads (suc n) t v r q in
      let short : last ≤ 63 = omega (arith, leads_cheap goal (suc n) v r known) in
      let few : moves r ≤ 254 = omega (arith, leads_few goal (suc n) v r known) in
      let ends : end_of goal t (way (suc n) t v) ≡ last = ap (end_of goal t) q ∙ e in
      let wanted : moves_to goal last t (way (suc n) t v) ≡ moves r = moves_here goal last t (way (suc n) t v) ends ∙ ap moves_of q in
      let goes = way_on stand turn goal n t v (omega arith) in
      let (w, first, best, among) = best_found goal last t v (way_by stand turn goal n t v) r e few short (turn t v) (sym goes ∙ q) in
      onward n t v last w r l e
      (ap (λ ws. get_or ws 0 v)
      (keep_same (λ x. eqb (paid_to true v x (moves_to goal last (suc t) (way n (suc t) x))) (moves_to goal last t (way (suc n) t v))) (λ x. eqb (moves_to goal last t (way_by stand turn goal n t v x)) (moves r)) (turn t v)
      (λ x m. rw (wanted, by_moves stand turn goal n t v last h l short ends x m)))
      ∙ first)
      among (way n (suc t) w) refl best
