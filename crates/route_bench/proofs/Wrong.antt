-- Wrong answers that the contract of `adfulmise_best_route` rules out, at document 01's job of width 3 and height 1, 0→2, H 2, with one
-- record and no bars: the route is 0 1 2 and costs 2; and at one more, with a bar. Assumes nothing.
use Prim.Native.Nat.{ℕ, ◌≤◌, ◌<◌}
use native.Mathlib.Omega.{arith}
use mathlib.Core.Path.{◌≡◌, refl, ap, ◌∙◌}
use mathlib.Core.List.{List, [], ◌∷◌}
use mathlib.Core.Option.{Option, some}
use lib.ListN.{get_or, replicate}
use Rattle.lists.specs.Lists.{range, only, keep, any_of, each}
use Rattle.hall.specs.Hall.{is_open}
use Rattle.hall.specs.Moves.{on_grid, cell_at, landing, reach_from, reach}
use Rattle.routes.specs.Route.{step_cost, cost}
use Rattle.routes.specs.Bars.{bars_for, bars_cell, bars_way, may_stand, may_turn}
use Rattle.routes.specs.Best.{moved, moves, outdone, preferred, better, best_of, in_front, best_way}
use Rattle.records.specs.Columns.{bar_from, bar_at, is_bar, own_bars, chains, chain_of}
use Rattle.layers.specs.Layers.{way_from, route_from, end_of, moves_of, moves_to, late_for, byte_at}
use Rattle.route_bench.specs.Answer.{RightArguments, hall_of, cost_told, written_route, bars_at, Answered}

abbrev aisle : List ℕ
aisle = 46 ∷ 46 ∷ 46 ∷ []

-- right arguments, where the layers and the stretch lent are long enough
abbrev Right : List ℕ → List ℕ → Type 0
Right layers stretch = RightArguments aisle 3 1 0 2 2 (replicate 8 0) 1 0 layers stretch

-- what is given back at these arguments, with these layers and this stretch before
abbrev Gives : List ℕ → List ℕ → List ℕ → List ℕ → ℕ → Type 0
Gives layers stretch layers-after stretch-after answer =
    Answered (Right layers stretch) (hall_of 3 1 aisle) (bars_at 1 (replicate 8 0) 0 0) 0 2 2 layers layers-after stretch stretch-after answer

abbrev route : Option (List ℕ)
route = route_from (hall_of 3 1 aisle) (bars_at 1 (replicate 8 0) 0 0) 0 2 2

right : Right (replicate 18 0) (replicate 3 0)
right =
    record {
      floor = record { some_wide = omega arith; wide = omega arith; some_high = omega arith; high = omega arith; bytes = refl; inside = omega arith; goal_inside = omega arith };
      records = record { room = omega arith; small = omega arith; inside = omega arith; down = λ y l m. absurd (omega arith) };
      tables = record { late = omega arith; room = omega arith; long = refl };
    }

straight : route ≡ some (0 ∷ 1 ∷ 2 ∷ [])
unfolding best_way in_front best_of better preferred outdone moves moved cost step_cost may_stand may_turn bars_for chain_of chains own_bars is_bar bar_at bar_from is_open reach reach_from landing cell_at on_grid range only keep any_of each
straight = refl

-- ---- right arguments

-- cells counted for steps
pub cells_told_for_steps : (layers stretch : List ℕ) → Gives (replicate 18 0) (replicate 3 0) layers stretch 3 → ⊥
unfolding cost_told cost step_cost
cells_told_for_steps layers stretch a = let z : ◌≡◌ {A = ℕ} 3 2 = (a.answers right).told ∙ ap (cost_told 2) straight in omega arith

-- the cost alone, with no route written
pub nothing_written : (layers : List ℕ) (answer : ℕ) → Gives (replicate 18 0) (replicate 3 0) layers (replicate 3 0) answer → ⊥
unfolding written_route
nothing_written layers answer a =
    let z : ◌≡◌ {A = ℕ} 0 1 = ap (λ (l : List ℕ). get_or l 1 0) ((a.answers right).written ∙ ap (λ (o : Option (List ℕ)). written_route o (replicate 3 0)) straight) in
    omega arith

two_moves : byte_at (hall_of 3 1 aisle) (bars_at 1 (replicate 8 0) 0 0) 2 2 (late_for (hall_of 3 1 aisle) (bars_at 1 (replicate 8 0) 0 0) 0 2 2) (end_of 2 0 route) 0 0 ≡ 2
unfolding byte_at moves_to moves_of end_of way_from best_way in_front best_of better preferred outdone moves moved cost step_cost may_stand may_turn bars_for chain_of chains own_bars is_bar bar_at bar_from is_open reach reach_from landing cell_at on_grid range only keep any_of each
two_moves = refl

-- the layers left as they were lent
pub layers_unfilled : (stretch : List ℕ) (answer : ℕ) → Gives (replicate 18 0) (replicate 3 0) (replicate 18 0) stretch answer → ⊥
layers_unfilled stretch answer a = let z : ◌≡◌ {A = ℕ} 0 2 = (a.answers right).filled.levels 0 0 (omega arith) (omega arith) ∙ two_moves in omega arith

-- ---- wrong arguments

-- 'no route' for a stretch of H bytes, one too few
pub short_stretch_no_route : (layers stretch : List ℕ) → Gives (replicate 18 0) (replicate 2 0) layers stretch 255 → ⊥
short_stretch_no_route layers stretch a =
    let wrong : Right (replicate 18 0) (replicate 2 0) → ⊥ = λ r. let z : ◌≡◌ {A = ℕ} 2 3 = r.tables.long in omega arith in
    let z : ◌≡◌ {A = ℕ} 255 254 = (a.refuses wrong).told in
    omega arith

-- layers of (H + 1) × width × height bytes, document 01's length, taken as enough
pub old_length_enough : (layers stretch : List ℕ) → Gives (replicate 9 0) (replicate 3 0) layers stretch 2 → ⊥
old_length_enough layers stretch a =
    let wrong : Right (replicate 9 0) (replicate 3 0) → ⊥ = λ r. let z : 18 ≤ 9 = r.tables.room in omega arith in
    let z : ◌≡◌ {A = ℕ} 2 254 = (a.refuses wrong).told in
    omega arith

-- 'no route' for a goal past the last cell
pub goal_outside_no_route : (layers stretch : List ℕ) → Answered (RightArguments aisle 3 1 0 3 2 (replicate 8 0) 1 0 (replicate 18 0) (replicate 3 0)) (hall_of 3 1 aisle) (bars_at 1 (replicate 8 0) 0 0) 0 3 2 (replicate 18 0) layers (replicate 3 0) stretch 255 → ⊥
goal_outside_no_route layers stretch a =
    let wrong : RightArguments aisle 3 1 0 3 2 (replicate 8 0) 1 0 (replicate 18 0) (replicate 3 0) → ⊥ = λ r. let z : 3 < 3 = r.floor.goal_inside in omega arith in
    let z : ◌≡◌ {A = ℕ} 255 254 = (a.refuses wrong).told in
    omega arith

-- ---- in the same hall 1→2, H 4, where node 1 of two bars cell 2 from step 1 to 3: the route is 1 1 1 1 2

abbrev records : List ℕ
records = 0 ∷ 0 ∷ 0 ∷ 1 ∷ 0 ∷ 0 ∷ 0 ∷ 2 ∷ 0 ∷ 1 ∷ 0 ∷ 3 ∷ replicate 4 0

abbrev RightBarred : Type 0
RightBarred = RightArguments aisle 3 1 1 2 4 records 2 1 (replicate 30 0) (replicate 5 0)

right_barred : RightBarred
right_barred =
    record {
      floor = record { some_wide = omega arith; wide = omega arith; some_high = omega arith; high = omega arith; bytes = refl; inside = omega arith; goal_inside = omega arith };
      records = record { room = omega arith; small = omega arith; inside = omega arith; down = λ y l m. let e : y ≡ 1 = omega arith in rw e (omega arith) };
      tables = record { late = omega arith; room = omega arith; long = refl };
    }

waits : route_from (hall_of 3 1 aisle) (bars_at 2 records 1 0) 1 2 4 ≡ some (1 ∷ 1 ∷ 1 ∷ 1 ∷ 2 ∷ [])
unfolding best_way in_front best_of better preferred outdone moves moved cost step_cost may_stand may_turn bars_cell bars_way bars_for chain_of chains own_bars is_bar bar_at bar_from is_open reach reach_from landing cell_at on_grid range only keep any_of each
waits = refl

-- document 01's route, which comes before it in the dictionary but moves three times
pub old_route_written : (layers : List ℕ) (answer : ℕ) → Answered RightBarred (hall_of 3 1 aisle) (bars_at 2 records 1 0) 1 2 4 (replicate 30 0) layers (replicate 5 0) (1 ∷ 0 ∷ 0 ∷ 1 ∷ 2 ∷ []) answer → ⊥
unfolding written_route
old_route_written layers answer a =
    let z : ◌≡◌ {A = ℕ} 0 1 = ap (λ (l : List ℕ). get_or l 1 0) ((a.answers right_barred).written ∙ ap (λ (o : Option (List ℕ)). written_route o (replicate 5 0)) waits) in
    omega arith
