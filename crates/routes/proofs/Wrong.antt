-- Wrong turns of the definitions of routes, each refuted at a small input: antt computes what the definition says there. Assumes nothing.
use Prim.Native.Nat.{ℕ}
use native.Mathlib.Omega.{arith}
use mathlib.Core.Path.{◌≡◌, sym, ap}
use mathlib.Core.Bool.{false, true≢false}
use mathlib.Core.List.{List, [], ◌∷◌}
use lib.ListN.{get_or}
use Rattle.routes.specs.Route.{step_cost, cost}
use Rattle.routes.specs.Bars.{bars_cell}
use Rattle.routes.specs.Best.{moved, moves, outdone, preferred}
use Rattle.routes.specs.declared.Bar.TheVariants.{Stay}

-- counted to the first touch of the goal
pub first_touch : 1 ≡ cost 2 (6 ∷ 2 ∷ 6 ∷ 2 ∷ []) → ⊥
unfolding cost step_cost
first_touch e = let z : ◌≡◌ {A = ℕ} 1 3 = e in omega arith

-- cell 7 is barred from step 1 to step 3: the last step left out
pub last_barred_step : false ≡ bars_cell 3 7 (Stay 7 1 3) → ⊥
unfolding bars_cell
last_barred_step e = true≢false (sym e)

-- the later of two routes of one cost and as many moves
pub later_of_equal_routes : 1 ∷ 2 ∷ [] ≡ preferred 2 (0 ∷ 2 ∷ []) (1 ∷ 2 ∷ []) → ⊥
unfolding preferred outdone moves moved cost step_cost
later_of_equal_routes e = let z : ◌≡◌ {A = ℕ} 1 0 = ap (λ (r : List ℕ). get_or r 0 9) e in omega arith

-- fewest moves before least cost: the route that costs 3 and has one move
pub moves_before_cost : 0 ∷ 0 ∷ 0 ∷ 2 ∷ [] ≡ preferred 2 (0 ∷ 1 ∷ 2 ∷ 2 ∷ []) (0 ∷ 0 ∷ 0 ∷ 2 ∷ []) → ⊥
unfolding preferred outdone moves moved cost step_cost
moves_before_cost e = let z : ◌≡◌ {A = ℕ} 0 1 = ap (λ (r : List ℕ). get_or r 1 9) e in omega arith

-- dictionary before moves: of two routes that cost 3 the one that wanders
pub dictionary_before_moves : 1 ∷ 0 ∷ 1 ∷ 2 ∷ [] ≡ preferred 2 (1 ∷ 0 ∷ 1 ∷ 2 ∷ []) (1 ∷ 1 ∷ 1 ∷ 2 ∷ []) → ⊥
unfolding preferred outdone moves moved cost step_cost
dictionary_before_moves e = let z : ◌≡◌ {A = ℕ} 0 1 = ap (λ (r : List ℕ). get_or r 1 9) e in omega arith

-- moves counted only up to the first touch of the goal 2
pub moves_to_first_touch : 1 ≡ moves (3 ∷ 2 ∷ 3 ∷ 2 ∷ 2 ∷ []) → ⊥
unfolding moves moved
moves_to_first_touch e = let z : ◌≡◌ {A = ℕ} 1 3 = e in omega arith

-- a stay counted as a move
pub stay_counted : 2 ≡ moves (3 ∷ 3 ∷ 2 ∷ []) → ⊥
unfolding moves moved
stay_counted e = let z : ◌≡◌ {A = ℕ} 2 1 = e in omega arith
