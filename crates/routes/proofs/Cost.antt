-- The cost, which is counted from the front of the list, is document 01's least step: by induction on the list, whose front
-- adds nothing only where all is on the goal. One step more in front keeps the order of costs.
-- Assumes nothing.
use Prim.Native.Nat.{ℕ, zero, suc, ◌+◌, ◌≤◌, ◌<◌}
use mathlib.Core.Path.{◌≡◌, refl}
use mathlib.Core.Bool.{Bool, true, false}
use mathlib.Core.List.{List, [], ◌∷◌}
use native.Mathlib.Omega.{arith}
use lib.Dec.{eqb}
use lib.ListN.{length}
use borrow.Author.Tests.{eqb-true, eq-eqb}
use Rattle.routes.specs.Route.{cell_of, step_cost, cost, LeastStep}

-- ---- one step more in front

pub step_lt : (b : Bool) (c d : ℕ) → c < d → step_cost b c < step_cost b d
unfolding step_cost
step_lt true zero zero h = absurd (omega arith)
step_lt true zero (suc d) h = omega arith
step_lt true (suc c) zero h = absurd (omega arith)
step_lt true (suc c) (suc d) h = omega arith
step_lt false c d h = omega arith

step_le : (b : Bool) (c d : ℕ) → c ≤ d → step_cost b c ≤ step_cost b d
unfolding step_cost
step_le true zero zero h = omega arith
step_le true zero (suc d) h = omega arith
step_le true (suc c) zero h = absurd (omega arith)
step_le true (suc c) (suc d) h = omega arith
step_le false c d h = omega arith

step_injective : (b : Bool) (c d : ℕ) → step_cost b c ≡ step_cost b d → c ≡ d
unfolding step_cost
step_injective true zero zero e = refl
step_injective true zero (suc d) e = absurd (omega arith)
step_injective true (suc c) zero e = absurd (omega arith)
step_injective true (suc c) (suc d) e = omega arith
step_injective false c d e = omega arith

pub front_le : (goal v : ℕ) (r s : List ℕ) → cost goal r ≤ cost goal s → cost goal (v ∷ r) ≤ cost goal (v ∷ s)
unfolding cost
front_le goal v r s h = step_le (eqb v goal) (cost goal r) (cost goal s) h

pub front_injective : (goal v : ℕ) (r s : List ℕ) → cost goal (v ∷ r) ≡ cost goal (v ∷ s) → cost goal r ≡ cost goal s
unfolding cost
front_injective goal v r s e = step_injective (eqb v goal) (cost goal r) (cost goal s) e

-- ---- the least step

step_zero : (b : Bool) (c : ℕ) → step_cost b c ≤ 0 → (b ≡ true) × (c ≡ 0)
unfolding step_cost
step_zero true zero h = (refl, refl)
step_zero true (suc c) h = absurd (omega arith)
step_zero false c h = absurd (omega arith)

step_rest : (b : Bool) (c t : ℕ) → step_cost b c ≤ suc t → c ≤ t
unfolding step_cost
step_rest true zero t h = omega arith
step_rest true (suc c) t h = omega arith
step_rest false c t h = omega arith

pub step_most : (b : Bool) (c : ℕ) → step_cost b c ≤ suc c
unfolding step_cost
step_most true zero = omega arith
step_most true (suc c) = omega arith
step_most false c = omega arith

on_goal_from_cost : (goal : ℕ) (r : List ℕ) (t : ℕ) → cost goal r ≤ t → t < length r → cell_of r t ≡ goal
unfolding cost
on_goal_from_cost goal [] t h k = absurd (omega arith)
on_goal_from_cost goal (v ∷ r) zero h k = eqb-true v goal (step_zero (eqb v goal) (cost goal r) h).0
on_goal_from_cost goal (v ∷ r) (suc t) h k = on_goal_from_cost goal r t (step_rest (eqb v goal) (cost goal r) t h) (omega arith)

cost_below : (goal : ℕ) (r : List ℕ) (c : ℕ) → ((t : ℕ) → c ≤ t → t < length r → cell_of r t ≡ goal) → cost goal r ≤ c
unfolding cost step_cost
cost_below goal [] c h = omega arith
cost_below goal (v ∷ r) zero h =
    let rest : cost goal r ≤ 0 = cost_below goal r 0 (λ t k l. h (suc t) (omega arith) (omega arith)) in
    let here : cost goal r ≡ 0 = omega arith in
    rw (eq-eqb v goal (h 0 (omega arith) (omega arith)), here) (omega arith)
cost_below goal (v ∷ r) (suc c) h =
    let rest : cost goal r ≤ c = cost_below goal r c (λ t k l. h (suc t) (omega arith) (omega arith)) in
    omega (arith, step_most (eqb v goal) (cost goal r))

pub cost_least : (goal h : ℕ) (r : List ℕ) → length r ≡ h + 1 → cell_of r h ≡ goal → LeastStep goal h r (cost goal r)
cost_least goal h r long ends =
    record {
      within = cost_below goal r h (λ t k l. let e : t ≡ h = omega arith in rw e ends);
      stays = λ t k l. on_goal_from_cost goal r t k (omega arith);
      least = λ d f. cost_below goal r d (λ t k l. f t k (omega arith));
    }
