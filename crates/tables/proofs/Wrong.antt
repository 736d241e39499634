-- Wrong answers that the contracts over the lent tables rule out. Each law puts one in the place of the result or of the table at exit,
-- at small tables that meet the function's `requires`. Assumes nothing.
use Prim.Native.Nat.{ℕ, ◌+◌, ◌*◌, ◌<◌}
use native.Mathlib.Omega.{arith}
use mathlib.Core.Path.{◌≡◌, refl, sym, ap}
use mathlib.Core.Bool.{true≢false}
use mathlib.Core.List.{List, [], ◌∷◌}
use Rattle.std.specs.Prelude.{Some}
use lib.ListN.{get_or, set}
use Rattle.lists.specs.Lists.{sum_to}
use Rattle.routes.specs.Route.{step_cost, cost, route_in}
use Rattle.routes.specs.declared.Bar.{Bar}
use Rattle.routes.specs.declared.Bar.TheVariants.{Stay}
use Rattle.tables.specs.State.{is_open_at}
use Rattle.tables.specs.Post.{LeastFact, code_of, Recorded}
use Rattle.tables.specs.declared.Code.{Code}

-- columns for two nodes, both made: node 0 of sum 3 is closed, node 1 of sum 5 is open and bars carrier 1 from cell 4 at steps 1 to 2
abbrev two : List ℕ
two = 0 ∷ 0 ∷ 0 ∷ 1 ∷ 0 ∷ 1 ∷ 0 ∷ 4 ∷ 0 ∷ 1 ∷ 0 ∷ 2 ∷ 3 ∷ 5 ∷ 0 ∷ 1 ∷ []

-- the same before node 1 was made
abbrev one : List ℕ
one = 0 ∷ 0 ∷ 0 ∷ 0 ∷ 0 ∷ 0 ∷ 0 ∷ 0 ∷ 0 ∷ 0 ∷ 0 ∷ 0 ∷ 3 ∷ 0 ∷ 0 ∷ 0 ∷ []

abbrev stay : Bar
stay = Stay 4 1 2

-- ---- least_open

-- a closed node taken
pub closed_taken : LeastFact 2 two 2 (Some 0) → ⊥
unfolding LeastFact is_open_at
closed_taken f = true≢false (sym f.opened)

-- two open nodes of sum 5: the one of the greater number
pub later_of_equal_sums : LeastFact 2 (0 ∷ 0 ∷ 0 ∷ 0 ∷ 0 ∷ 0 ∷ 0 ∷ 0 ∷ 0 ∷ 0 ∷ 0 ∷ 0 ∷ 5 ∷ 5 ∷ 1 ∷ 1 ∷ []) 2 (Some 1) → ⊥
unfolding LeastFact is_open_at
later_of_equal_sums f = let z : 5 < 5 = f.first 0 (omega arith) refl in omega arith

-- ---- close

-- nothing written
pub left_open : two ≡ set two (7 * 2 + 1) 0 → ⊥
left_open e = let z : ◌≡◌ {A = ℕ} 1 0 = ap (λ (xs : List ℕ). get_or xs 15 0) e in omega arith

-- the sum cleared for the mark that the node is open
pub sum_cleared : set two (6 * 2 + 1) 0 ≡ set two (7 * 2 + 1) 0 → ⊥
sum_cleared e = let z : ◌≡◌ {A = ℕ} 1 0 = ap (λ (xs : List ℕ). get_or xs 15 0) e in omega arith

-- ---- code_of

-- a stay's two steps exchanged
pub steps_exchanged : record { kind = 1; first = 4; second = 2; third = 1 } ≡ code_of stay → ⊥
steps_exchanged e = let z : ◌≡◌ {A = ℕ} 2 1 = ap (λ (c : Code). c.second) e in omega arith

-- the kind of a crossing for a stay
pub stay_as_crossing : record { kind = 2; first = 4; second = 1; third = 2 } ≡ code_of stay → ⊥
stay_as_crossing e = let z : ◌≡◌ {A = ℕ} 2 1 = ap (λ (c : Code). c.kind) e in omega arith

-- ---- write_record, of node 1 under node 0

-- all but the mark that the node is open
pub not_opened : Recorded 2 one 1 0 1 stay 5 (set two (7 * 2 + 1) 0) → ⊥
not_opened r = let z : ◌≡◌ {A = ℕ} 0 1 = r.opened in omega arith

-- the parent closed besides: one entry too many written, where node 0 was open before
pub parent_closed : Recorded 2 (set one (7 * 2 + 0) 1) 1 0 1 stay 5 two → ⊥
parent_closed r = let z : ◌≡◌ {A = ℕ} 0 1 = r.others 7 0 (omega arith) (λ same. omega (arith, same)) in omega arith

-- ---- route_cost

-- cells counted for steps: document 01's 1 4 7
pub cells_counted : 3 ≡ cost 7 (1 ∷ 4 ∷ 7 ∷ 7 ∷ 7 ∷ []) → ⊥
unfolding cost step_cost
cells_counted e = let z : ◌≡◌ {A = ℕ} 3 2 = e in omega arith

-- 'Counting a route to its first touch of the goal'
pub first_touch : 1 ≡ cost 2 (6 ∷ 2 ∷ 6 ∷ 2 ∷ []) → ⊥
unfolding cost step_cost
first_touch e = let z : ◌≡◌ {A = ℕ} 1 3 = e in omega arith

-- ---- sum_of, at the first job's plan

-- the last carrier left out
pub last_carrier_left_out : 3 ≡ sum_to 2 (λ i. cost (get_or (5 ∷ 7 ∷ 0 ∷ 0 ∷ 0 ∷ 0 ∷ 0 ∷ 0 ∷ []) i 0) (route_in 4 (3 ∷ 3 ∷ 4 ∷ 5 ∷ 5 ∷ 1 ∷ 4 ∷ 7 ∷ 7 ∷ 7 ∷ []) i)) → ⊥
unfolding sum_to route_in cost step_cost
last_carrier_left_out e = let z : ◌≡◌ {A = ℕ} 3 5 = e in omega arith

-- the goal of carrier 0 for every carrier: 1 4 7 7 7 never comes to 5
pub cost_of_the_wrong_carrier : 8 ≡ sum_to 2 (λ i. cost (get_or (5 ∷ 7 ∷ 0 ∷ 0 ∷ 0 ∷ 0 ∷ 0 ∷ 0 ∷ []) i 0) (route_in 4 (3 ∷ 3 ∷ 4 ∷ 5 ∷ 5 ∷ 1 ∷ 4 ∷ 7 ∷ 7 ∷ 7 ∷ []) i)) → ⊥
unfolding sum_to route_in cost step_cost
cost_of_the_wrong_carrier e = let z : ◌≡◌ {A = ℕ} 8 5 = e in omega arith
