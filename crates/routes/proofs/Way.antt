-- The best way over any places to stand and any turns, by induction on the steps left.
-- Assumes nothing.
use Prim.Native.Nat.{ℕ, zero, suc, ◌+◌, ◌≤◌, ◌<◌}
use mathlib.Core.Path.{◌≡◌, refl, sym, ap, subst}
use mathlib.Core.Logic.{inl, inr}
use mathlib.Core.Bool.{Bool, true, false, ◌&&◌}
use mathlib.Core.List.Memᴰ
use mathlib.Core.List.{List, [], ◌∷◌, map, Memᴰ}
use mathlib.Core.Option.{Option, none, some}
use native.Mathlib.Nat.{add-zero, add-suc, suc-add}
use native.Mathlib.Omega.{arith}
use lib.Dec.{T, eqb, eqb→eq}
use lib.ListN.{length}
use Rattle.lists.proofs.Orders.{Rising}
use Rattle.lists.proofs.Tests.{and_both, both_and, eq_test}
use Rattle.routes.specs.Route.{cell_of}
use Rattle.routes.specs.Best.{NotAfter, best_of, in_front, best_way}
use Rattle.routes.proofs.Finding.{Finds, Among, Front, finds_same, front_finds, best_of_finds}
use Rattle.routes.proofs.Order.{not_after_itself}

-- where a carrier may stand at a step, where it may turn from there, and its goal
module _ (stand : ℕ → ℕ → Bool) (turn : ℕ → ℕ → List ℕ) (goal : ℕ) where
  -- a way from step t on, to the goal
  unfoldable pub Way : ℕ → List ℕ → Type 0
  Way t [] = ⊥
  Way t (v ∷ []) = T (stand t v) × (v ≡ goal)
  Way t (v ∷ w ∷ r) = T (stand t v) × Memᴰ w (turn t v) × Way (suc t) (w ∷ r)

  -- a way from v at step t with n steps left
  pub record Runs (n t v : ℕ) (r : List ℕ) : Type 0 where
    pub long : length r ≡ suc n
    pub begins : cell_of r 0 ≡ v
    pub way : Way t r

  -- the best of these, or none only where there is none
  unfoldable pub Right : ℕ → ℕ → ℕ → Option (List ℕ) → Type 0
  Right n t v o = Finds goal (Runs n t v) o

  -- a way, step by step
  pub record Steps (t n : ℕ) (r : List ℕ) : Type 0 where
    pub stands : (s : ℕ) → s ≤ n → T (stand (t + s) (cell_of r s))
    pub turns : (s : ℕ) → s < n → Memᴰ (cell_of r (suc s)) (turn (t + s) (cell_of r s))
    pub ends : cell_of r n ≡ goal

  pub way_stands : (t : ℕ) (r : List ℕ) → Way t r → (s : ℕ) → s < length r → T (stand (t + s) (cell_of r s))
  unfolding Way
  way_stands t [] f s h = absurd f
  way_stands t (v ∷ []) f zero h = rw add-zero f.0
  way_stands t (v ∷ []) f (suc s) h = absurd (omega arith)
  way_stands t (v ∷ w ∷ r) f zero h = rw add-zero f.0
  way_stands t (v ∷ w ∷ r) f (suc s) h = rw (add-suc, ← suc-add) (way_stands (suc t) (w ∷ r) f.2 s (omega arith))

  pub way_turns : (t : ℕ) (r : List ℕ) → Way t r → (s : ℕ) → suc s < length r → Memᴰ (cell_of r (suc s)) (turn (t + s) (cell_of r s))
  unfolding Way
  way_turns t [] f s h = absurd f
  way_turns t (v ∷ []) f s h = absurd (omega arith)
  way_turns t (v ∷ w ∷ r) f zero h = rw add-zero f.1
  way_turns t (v ∷ w ∷ r) f (suc s) h = rw (add-suc, ← suc-add) (way_turns (suc t) (w ∷ r) f.2 s (omega arith))

  pub way_ends : (t : ℕ) (r : List ℕ) → Way t r → (n : ℕ) → length r ≡ suc n → cell_of r n ≡ goal
  unfolding Way
  way_ends t [] f n e = absurd f
  way_ends t (v ∷ []) f zero e = f.1
  way_ends t (v ∷ []) f (suc n) e = absurd (omega arith)
  way_ends t (v ∷ w ∷ r) f zero e = absurd (omega arith)
  way_ends t (v ∷ w ∷ r) f (suc n) e = way_ends (suc t) (w ∷ r) f.2 n (omega arith)

  pub steps_way : (n t : ℕ) (r : List ℕ) → length r ≡ suc n → Steps t n r → Way t r
  unfolding Way
  steps_way n t [] e f = absurd (omega arith)
  steps_way zero t (v ∷ []) e f = (rw add-zero at (f.stands 0 (omega arith)), f.ends)
  steps_way (suc n) t (v ∷ []) e f = absurd (omega arith)
  steps_way zero t (v ∷ w ∷ r) e f = absurd (omega arith)
  steps_way (suc n) t (v ∷ w ∷ r) e f = (
    rw add-zero at (f.stands 0 (omega arith)),
    rw add-zero at (f.turns 0 (omega arith)),
    steps_way n (suc t) (w ∷ r) (omega arith)
        (record {
          stands = λ s h. rw (suc-add, ← add-suc) (f.stands (suc s) (omega arith));
          turns = λ s h. rw (suc-add, ← add-suc) (f.turns (suc s) (omega arith));
          ends = f.ends;
        }),
  )

  last_run : (t v : ℕ) (s : List ℕ) → Runs 0 t v s → (s ≡ v ∷ []) × T (stand t v) × (v ≡ goal)
  unfolding Way
  last_run t v [] f = absurd (omega arith)
  last_run t v (x ∷ []) f =
      let e : x ≡ v = f.begins in
      (ap {B = List ℕ} (λ z. z ∷ []) e, subst (λ z. T (stand t z)) e f.way.0, subst (λ z. z ≡ goal) e f.way.1)
  last_run t v (x ∷ y ∷ s) f = absurd (omega arith)

  run_last : (t v : ℕ) → T (stand t v) → v ≡ goal → Runs 0 t v (v ∷ [])
  unfolding Way
  run_last t v h e = record { long = refl; begins = refl; way = (h, e) }

  -- the ways that go on from v by some turn
  abbrev Onward : ℕ → ℕ → ℕ → List ℕ → Type 0
  Onward n t v s = Among (λ w. Front v (Runs n (suc t) w)) (turn t v) s

  run_rest : (n t v : ℕ) (s : List ℕ) → Runs (suc n) t v s → T (stand t v) × Onward n t v s
  unfolding Way Among Front
  run_rest n t v [] f = absurd (omega arith)
  run_rest n t v (x ∷ []) f = absurd (omega arith)
  run_rest n t v (x ∷ w ∷ r) f =
      let e : x ≡ v = f.begins in
      let long : length (w ∷ r) ≡ suc n = omega arith in (
        subst (λ z. T (stand t z)) e f.way.0,
        (
          w,
          subst (λ z. Memᴰ w (turn t z)) e f.way.1,
          (w ∷ r, ap {B = List ℕ} (λ z. z ∷ w ∷ r) e, record { long = long; begins = refl; way = f.way.2 }),
        ),
      )

  run_front : (n t v : ℕ) (s : List ℕ) → T (stand t v) → Onward n t v s → Runs (suc n) t v s
  unfolding Way Among Front
  run_front n t v s h (w, m, (r, e, g)) = subst (Runs (suc n) t v) (sym e) (fronted n t v w r h m g)
    where
      fronted : (n t v w : ℕ) (r : List ℕ) → T (stand t v) → Memᴰ w (turn t v) → Runs n (suc t) w r → Runs (suc n) t v (v ∷ r)
      fronted n t v w [] h m g = absurd (omega (arith, g.long))
      fronted n t v w (x ∷ r) h m g = record { long = ap suc g.long; begins = refl; way = (h, Memᴰ.cast g.begins m, g.way) }

  runs_before : (n t v w x : ℕ) (r s : List ℕ) → w < x → Front v (Runs n t w) r → Front v (Runs n t x) s → NotAfter r s
  unfolding NotAfter Front
  runs_before n t v w x r s h (p, e, f) (q, k, g) = rw (e, k) (inr (refl, before p q f.long g.long f.begins g.begins))
    where
      before : (p q : List ℕ) → length p ≡ suc n → length q ≡ suc n → cell_of p 0 ≡ w → cell_of q 0 ≡ x → NotAfter p q
      before [] q l k a b = tt
      before (a ∷ p) [] l k c d = absurd (omega arith)
      before (a ∷ p) (b ∷ q) l k c d = inl (omega arith)

  last_right : (t v : ℕ) (b : Bool) → (T b → T (stand t v) × (v ≡ goal)) → (T (stand t v) × (v ≡ goal) → T b) → Right 0 t v (elim b [ true ↦ some (v ∷ []) | false ↦ none ])
  unfolding Right Finds
  last_right t v true test fact =
      record {
        inside = run_last t v (test tt).0 (test tt).1;
        least = λ s f. rw (last_run t v s f).0 (omega arith);
        fewest = λ s f k. rw (last_run t v s f).0 (omega arith);
        first = λ s f k j. rw (last_run t v s f).0 (not_after_itself (v ∷ []));
      }
  last_right t v false test fact = λ s f. fact ((last_run t v s f).1, (last_run t v s f).2)

  front_right : (n t v : ℕ) (b : Bool) (o : Option (List ℕ)) → (T b → T (stand t v)) → (T (stand t v) → T b) → Finds goal (Onward n t v) o → Right (suc n) t v (elim b [ true ↦ o | false ↦ none ])
  unfolding Right Finds
  front_right n t v true o test fact f = finds_same goal (Onward n t v) (Runs (suc n) t v) (λ s a. run_front n t v s (test tt) a) (λ s g. (run_rest n t v s g).1) o f
  front_right n t v false o test fact f = λ s g. fact (run_rest n t v s g).0

  -- by induction on the steps left: the suffixes from each cell that may follow are right, v in front of each is the best way by that
  -- cell, and the best of them the best way
  pub best_way_right : ((t v : ℕ) → Rising (turn t v)) → (n t v : ℕ) → Right n t v (best_way stand turn goal n t v)
  unfolding Right best_way
  best_way_right rises zero t v =
      last_right t v (stand t v && eqb v goal)
      (λ h. let b = and_both (stand t v) (eqb v goal) h in (b.0, eqb→eq v goal b.1))
      (λ f. both_and (stand t v) (eqb v goal) f.0 (eq_test v goal f.1))
  best_way_right rises (suc n) t v =
      front_right n t v (stand t v) (best_of goal (map (λ w. in_front v (best_way stand turn goal n (suc t) w)) (turn t v))) (λ h. h) (λ h. h)
      (best_of_finds goal (λ w. Front v (Runs n (suc t) w)) (λ w. in_front v (best_way stand turn goal n (suc t) w))
      (λ w. front_finds goal (Runs n (suc t) w) v w (λ r g. (omega (arith, g.long), g.begins)) (best_way stand turn goal n (suc t) w) (best_way_right rises n (suc t) w))
      (runs_before n (suc t) v) (turn t v) (rises t v))
