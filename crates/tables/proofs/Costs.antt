-- The cost of a route, counted from its end: a last cell on the goal adds nothing, any other makes every step count. So the walk
-- back from the end stops at the cost. The routes of a stretch are its parts, one after the other, and their costs its sum.
-- Assumes nothing.
use Prim.Native.Nat.{ℕ, zero, suc, ◌+◌, ◌-◌, ◌*◌, ◌≤◌, ◌<◌}
use mathlib.Core.Path.{◌≡◌, refl, sym, ap, ◌∙◌}
use mathlib.Core.Bool.{Bool, true, false}
use mathlib.Core.List.{List, [], ◌∷◌, ◌++◌, map}
use native.Mathlib.Omega.{arith}
use native.Mathlib.Nat.{suc-mul}
use native.Mathlib.Numerals.{add-one}
use borrow.Author.Tests.{eq-eqb, ne_eqb}
use lib.Dec.{eqb}
use Rattle.std.specs.List.{All}
use Rattle.std.proofs.lemmas.List.Elements.{All-head, All-tail}
use lib.ListN.{length, get_or, take, drop, length-take}
use lib.Seq.{take-add, take_all, drop-drop}
use Rattle.lists.specs.Lists.{range, sum_to, each}
use Rattle.lists.proofs.Ranges.{get_d_mapped}
use Rattle.lists.proofs.Sums.{sum_same, sum_at_most}
use Rattle.job.specs.Job.{Job, plan_length}
use Rattle.routes.specs.Route.{step_cost, cost, route_in}
use Rattle.routes.proofs.Cost.{step_most}
use Rattle.tree.specs.Plan.{route_of, total}
use Rattle.tables.specs.State.{routes_in}

-- ---- the cost from the end

step_more : (b : Bool) (c : ℕ) → step_cost b (suc c) ≡ suc (suc c)
unfolding step_cost
step_more true c = refl
step_more false c = refl

-- all of it on the goal
pub cost_stays : (goal : ℕ) (r : List ℕ) → All (λ v. v ≡ goal) r → 0 ≡ cost goal r
unfolding cost step_cost
cost_stays goal [] all = refl
cost_stays goal (v ∷ r) all = rw (eq-eqb v goal (All-head (λ x. x ≡ goal) v r all), ← cost_stays goal r (All-tail (λ x. x ≡ goal) v r all)) refl

-- last elsewhere at step i
cost_past : (goal : ℕ) (r : List ℕ) (i : ℕ) → i < length r → (get_or r i 0 ≡ goal → ⊥) → All (λ v. v ≡ goal) (drop (suc i) r) → suc i ≡ cost goal r
unfolding cost step_cost
cost_past goal [] i l n all = absurd (omega arith)
cost_past goal (v ∷ r) zero l n all = rw (ne_eqb v goal n, ← cost_stays goal r all) refl
cost_past goal (v ∷ r) (suc i) l n all = rw (← cost_past goal r i (omega arith) n all) (sym (step_more (eqb v goal) i))

pub cost_last : (goal : ℕ) (r : List ℕ) (i : ℕ) → i < length r → (get_or r i 0 ≡ goal → ⊥) → All (λ v. v ≡ goal) (drop (i + 1) r) → i + 1 ≡ cost goal r
cost_last goal r i l n all = rw add-one (cost_past goal r i l n (rw add-one at all))

cost_at_most : (goal : ℕ) (r : List ℕ) → cost goal r ≤ length r
unfolding cost
cost_at_most goal [] = omega arith
cost_at_most goal (v ∷ r) = omega (arith, step_most (eqb v goal) (cost goal r), cost_at_most goal r)

-- ---- the sum of a stretch

-- the cost of carrier i's route in a stretch
abbrev pub cost_in : ℕ → List ℕ → List ℕ → ℕ → ℕ
cost_in h goals stretch i = cost (get_or goals i 0) (route_in h stretch i)

pub costs_none : (h : ℕ) (goals stretch : List ℕ) → 0 ≡ sum_to 0 (cost_in h goals stretch)
unfolding sum_to
costs_none h goals stretch = refl

-- one carrier more, whose route is a part of the stretch
pub costs_more : (h : ℕ) (goals stretch : List ℕ) (i total c : ℕ) → total ≡ sum_to i (cost_in h goals stretch) → c ≡ cost (get_or goals i 0) (take (i * (h + 1) + (h + 1) - i * (h + 1)) (drop (i * (h + 1)) stretch)) → total + c ≡ sum_to (i + 1) (cost_in h goals stretch)
unfolding sum_to route_in
costs_more h goals stretch i total c e k =
    let d : i * (h + 1) + (h + 1) - i * (h + 1) ≡ h + 1 = omega arith in
    let r : c ≡ cost_in h goals stretch i = rw d at k in
    rw add-one (omega arith)

pub costs_at_most : (n h : ℕ) (goals stretch : List ℕ) → sum_to n (cost_in h goals stretch) ≤ n * (h + 1)
unfolding route_in
costs_at_most n h goals stretch =
    sum_at_most n (h + 1) (cost_in h goals stretch)
    (λ i l. omega (arith, cost_at_most (get_or goals i 0) (route_in h stretch i), length-take (h + 1) (drop (i * (h + 1)) stretch)))

-- ---- the routes of a stretch

pub route_in_lem : (job : Job) (stretch : List ℕ) (i : ℕ) → i < job.count → route_of (routes_in job stretch) i ≡ route_in job.horizon stretch i
unfolding routes_in
route_in_lem job stretch i l =
    let e : 0 + i ≡ i = omega arith in
    get_d_mapped (route_in job.horizon stretch) [] 0 job.count i l ∙ ap (route_in job.horizon stretch) e

-- the total of the routes, by their parts of the stretch
pub total_in : (job : Job) (stretch : List ℕ) → total job (routes_in job stretch) ≡ sum_to job.count (λ i. cost (job.goal_of i) (route_in job.horizon stretch i))
unfolding total
total_in job stretch = sum_same job.count _ _ (λ i l. ap (cost (job.goal_of i)) (route_in_lem job stretch i l))

joined : (size : ℕ) (stretch : List ℕ) (a n : ℕ) → each (λ r. r) (map (λ i. take size (drop (i * size) stretch)) (range a n)) ≡ take (n * size) (drop (a * size) stretch)
unfolding each range
joined size stretch a zero = let e : 0 * size ≡ 0 = omega arith in rw e refl
joined size stretch a (suc n) =
    let e : suc n * size ≡ size + n * size = omega (arith, suc-mul n size) in
    let s : suc a * size ≡ a * size + size = suc-mul a size in
    rw (e, take-add size (n * size) (drop (a * size) stretch), drop-drop size (a * size) stretch, ← s)
    (ap (λ (l : List ℕ). take size (drop (a * size) stretch) ++ l) (joined size stretch (suc a) n))

-- the routes, joined, are the stretch
pub routes_joined : (job : Job) (stretch : List ℕ) → length stretch ≡ plan_length job → each (λ r. r) (routes_in job stretch) ≡ stretch
unfolding routes_in route_in
routes_joined job stretch long =
    let z : 0 * (job.horizon + 1) ≡ 0 = omega arith in
    joined (job.horizon + 1) stretch 0 job.count ∙ rw z (take_all (plan_length job) stretch (omega arith))
