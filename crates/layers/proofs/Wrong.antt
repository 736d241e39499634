-- Wrong answers that the contracts of `one_more` and `seek_route` rule out. Those of `seek_route` are at halls of nine cells at most; antt
-- computes there the answer and the bytes that are to be. Assumes nothing.
use Prim.Native.Nat.{ℕ}
use native.Mathlib.Omega.{arith}
use mathlib.Core.Path.{◌≡◌, refl, sym, ap, ◌∙◌}
use mathlib.Core.List.{List, [], ◌∷◌}
use lib.ListN.{get_or}
use Rattle.lists.specs.Lists.{range, only, keep, any_of, each, sum_to}
use Rattle.hall.specs.Hall.{Hall, is_open}
use Rattle.hall.specs.Moves.{on_grid, cell_at, landing, reach_from, reach}
use Rattle.routes.specs.Route.{step_cost, cost}
use Rattle.routes.specs.Bars.{bars_cell, bars_way, may_stand, may_turn}
use Rattle.routes.specs.Best.{moved, moves, outdone, preferred, better, best_of, in_front, best_way}
use Rattle.routes.specs.declared.Bar.{Bar}
use Rattle.routes.specs.declared.Bar.TheVariants.{Stay, Cross}
use Rattle.marks.specs.Marks.{stand_mark, bars_move, digit, digits_of, bears_until, quiet_from}
use Rattle.layers.specs.Fill.{one_more_than}
use Rattle.layers.specs.Layers.{way_from, route_from, sought_of, end_of, moves_of, moves_to, soon_by, can_go_on, end_by, found_by, filled_from, late_for, byte_at}
use Rattle.layers.specs.Post.{SoughtRoute}
use Rattle.std.specs.Prelude.{Some, None}
use Rattle.layers.specs.Sought.{Sought}

-- ---- one_more

-- none goes round to no moves at all
pub none_goes_round : 0 ≡ one_more_than 255 → ⊥
unfolding one_more_than
none_goes_round e = let z : ◌≡◌ {A = ℕ} 0 255 = e in omega arith

-- a move not counted
pub move_not_counted : 3 ≡ one_more_than 3 → ⊥
unfolding one_more_than
move_not_counted e = let z : ◌≡◌ {A = ℕ} 3 4 = e in omega arith

-- ---- seek_route: the answer

-- in numbers: 9 for none
abbrev told : Sought → ℕ
told None = 9
told (Some c) = c

abbrev open_square : Hall
open_square = record { width = 2; height = 2; bytes = 46 ∷ 46 ∷ 46 ∷ 46 ∷ [] }

-- cells 0 and 3 are closed, so that nothing leads from 1 to 2
abbrev split_square : Hall
split_square = record { width = 2; height = 2; bytes = 35 ∷ 46 ∷ 46 ∷ 35 ∷ [] }

-- a step counted on the goal although all of the rest is on it
pub goal_not_mended : (before after : List ℕ) → SoughtRoute open_square [] 3 3 1 before after (Some 1) → ⊥
unfolding sought_of best_way in_front best_of better preferred outdone moves moved cost step_cost may_stand may_turn is_open reach reach_from landing cell_at on_grid range only keep any_of each
goal_not_mended before after s = let z : ◌≡◌ {A = ℕ} 1 0 = ap told s.told in omega arith

-- right from the last column onto the next row
pub edge_not_asked : (before after : List ℕ) → SoughtRoute split_square [] 1 2 1 before after (Some 1) → ⊥
unfolding sought_of best_way in_front best_of better preferred outdone moves moved cost step_cost may_stand may_turn is_open reach reach_from landing cell_at on_grid range only keep any_of each
edge_not_asked before after s = let z : ◌≡◌ {A = ℕ} 1 9 = ap told s.told in omega arith

-- the moves before the cost: from 0 to 1, the crossing barred up to step 2, by four steps with one move and not by three with three
pub moves_before_cost : (before after : List ℕ) → SoughtRoute open_square (Cross 0 1 0 ∷ Cross 0 1 1 ∷ Cross 0 1 2 ∷ []) 0 1 4 before after (Some 4) → ⊥
unfolding sought_of best_way in_front best_of better preferred outdone moves moved cost step_cost may_stand may_turn bars_cell bars_way is_open reach reach_from landing cell_at on_grid range only keep any_of each
moves_before_cost before after s = let z : ◌≡◌ {A = ℕ} 4 3 = ap told s.told in omega arith

-- nothing found by the step where the layers are filled from, and not sought beyond: between two rooms the way is by the bottom, four steps
-- longer than the goal is away
abbrev two_rooms : Hall
two_rooms = record { width = 3; height = 3; bytes = 46 ∷ 35 ∷ 46 ∷ 46 ∷ 35 ∷ 46 ∷ 46 ∷ 46 ∷ 46 ∷ [] }

pub way_round_missed : (before after : List ℕ) → SoughtRoute two_rooms [] 0 2 6 before after None → ⊥
unfolding sought_of best_way in_front best_of better preferred outdone moves moved cost step_cost may_stand may_turn is_open reach reach_from landing cell_at on_grid range only keep any_of each
way_round_missed before after s = let z : ◌≡◌ {A = ℕ} 9 6 = ap told s.told in omega arith

-- ---- seek_route: the layers

-- three cells in a row
abbrev row : Hall
row = record { width = 3; height = 1; bytes = 46 ∷ 46 ∷ 46 ∷ [] }

-- a byte of the first plane
abbrev byte : List Bar → ℕ → ℕ → ℕ → ℕ → ℕ → ℕ
byte bars start goal h t v = byte_at row bars goal h (late_for row bars start goal h) (end_of goal 0 (route_from row bars start goal h)) t v

-- From 0 to 1 with H 2 the route ends at step 1: there the way from 0 ends later, and the goal has no moves left; at step 2 the goal has its
-- end. From 1 to 2 with H 4, where 2 is barred at steps 1 to 3: the route is 1 1 1 1 2, and 1 0 0 1 2 comes before it in the dictionary.
-- From 0 to 1 with H 4 the layers are filled from step 3: there the way from 0 ends later, and the goal at step 4 is as it was marked. With
-- H 6, where 0 and 1 are barred at step 1, no carrier goes on from 0: the layers are filled from step 4, and the goal at step 6 is as marked.
abbrev barred : List Bar
barred = Stay 2 1 3 ∷ []

abbrev stuck : List Bar
stuck = Stay 0 1 1 ∷ Stay 1 1 1 ∷ []

computed : (byte [] 0 1 2 1 0 ≡ 255) × (byte [] 0 1 2 1 1 ≡ 0) × (byte [] 0 1 2 2 1 ≡ 2) × (byte barred 1 2 4 0 1 ≡ 1) × (byte [] 0 1 4 3 0 ≡ 254) × (byte [] 0 1 4 4 1 ≡ 0) × (byte stuck 0 1 6 6 1 ≡ 0)
unfolding byte_at found_by end_by can_go_on late_for filled_from soon_by quiet_from bears_until stand_mark moves_to moves_of end_of way_from best_way in_front best_of better preferred outdone moves moved cost step_cost may_stand may_turn bars_cell bars_way is_open reach reach_from landing cell_at on_grid range only keep any_of each
computed = (refl, refl, refl, refl, refl, refl, refl)

-- the moves of a way that ends later
pub later_way_counted : (before after : List ℕ) (r : Sought) → SoughtRoute row [] 0 1 2 before after r → get_or after 3 0 ≡ moves (0 ∷ 1 ∷ []) → ⊥
unfolding moves moved
later_way_counted before after r s wrong = let z : ◌≡◌ {A = ℕ} 1 255 = sym wrong ∙ s.filled.levels 1 0 (omega arith) (omega arith) ∙ computed.0 in omega arith

-- the second pass left out: an end for moves
pub end_for_moves : (before after : List ℕ) (r : Sought) → SoughtRoute row [] 0 1 2 before after r → get_or after 4 0 ≡ 1 → ⊥
end_for_moves before after r s wrong = let z : ◌≡◌ {A = ℕ} 1 0 = sym wrong ∙ s.filled.levels 1 1 (omega arith) (omega arith) ∙ computed.1 in omega arith

-- the second pass begun at the horizon: moves for an end
pub moves_for_end : (before after : List ℕ) (r : Sought) → SoughtRoute row [] 0 1 2 before after r → get_or after 7 0 ≡ 0 → ⊥
moves_for_end before after r s wrong = let z : ◌≡◌ {A = ℕ} 0 2 = sym wrong ∙ s.filled.levels 2 1 (omega arith) (omega arith) ∙ computed.2 in omega arith

-- the dictionary before the moves
pub dictionary_first : (before after : List ℕ) (r : Sought) → SoughtRoute row barred 1 2 4 before after r → get_or after 1 0 ≡ moves (1 ∷ 0 ∷ 0 ∷ 1 ∷ 2 ∷ []) → ⊥
unfolding moves moved
dictionary_first before after r s wrong = let z : ◌≡◌ {A = ℕ} 3 1 = sym wrong ∙ s.filled.levels 0 1 (omega arith) (omega arith) ∙ computed.3 in omega arith

-- three stays counted as moves
pub stays_counted : (before after : List ℕ) (r : Sought) → SoughtRoute row barred 1 2 4 before after r → get_or after 1 0 ≡ 4 → ⊥
stays_counted before after r s wrong = let z : ◌≡◌ {A = ℕ} 4 1 = sym wrong ∙ s.filled.levels 0 1 (omega arith) (omega arith) ∙ computed.3 in omega arith

-- an end that is not in time kept
pub late_end_kept : (before after : List ℕ) (r : Sought) → SoughtRoute row [] 0 1 4 before after r → get_or after 9 0 ≡ 4 → ⊥
late_end_kept before after r s wrong = let z : ◌≡◌ {A = ℕ} 4 254 = sym wrong ∙ s.filled.levels 3 0 (omega arith) (omega arith) ∙ computed.4 in omega arith

-- the layers filled from the horizon, although the route was found
pub filled_too_far : (before after : List ℕ) (r : Sought) → SoughtRoute row [] 0 1 4 before after r → get_or after 13 0 ≡ 4 → ⊥
filled_too_far before after r s wrong = let z : ◌≡◌ {A = ℕ} 4 0 = sym wrong ∙ s.filled.levels 4 1 (omega arith) (omega arith) ∙ computed.5 in omega arith

-- sought as far as the horizon, although no carrier goes on
pub sought_in_vain : (before after : List ℕ) (r : Sought) → SoughtRoute row stuck 0 1 6 before after r → get_or after 19 0 ≡ 6 → ⊥
sought_in_vain before after r s wrong = let z : ◌≡◌ {A = ℕ} 6 0 = sym wrong ∙ s.filled.levels 6 1 (omega arith) (omega arith) ∙ computed.6 in omega arith

-- the digit of a crossing, the move to the right from cell 0, lost in the second plane
pub digit_lost : (before after : List ℕ) (r : Sought) → SoughtRoute row (Cross 0 1 0 ∷ []) 0 1 1 before after r → get_or after 6 0 ≡ 0 → ⊥
unfolding digits_of sum_to digit bars_move landing on_grid cell_at only bars_way any_of
digit_lost before after r s wrong = let z : ◌≡◌ {A = ℕ} 0 8 = sym wrong ∙ s.filled.crossings 0 0 (omega arith) (omega arith) in omega arith

-- a byte beyond the planes changed
pub byte_beyond_changed : (before after : List ℕ) (r : Sought) → SoughtRoute row [] 0 1 1 before after r → get_or before 12 0 ≡ 7 → get_or after 12 0 ≡ 0 → ⊥
byte_beyond_changed before after r s old wrong = let z : ◌≡◌ {A = ℕ} 0 7 = sym wrong ∙ s.kept.rest 12 (omega arith) ∙ old in omega arith
