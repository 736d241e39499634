-- Wrong answers that the contracts of the hall rule out. Each law puts one in the result's place, at a small hall that meets the
-- function's `requires`; antt computes what the contract says there. Assumes nothing.
use Prim.Native.Nat.{ℕ}
use native.Mathlib.Omega.{arith}
use mathlib.Core.Path.{◌≡◌, sym, ap}
use mathlib.Core.Bool.{true, false, ◌||◌, true≢false}
use mathlib.Core.List.{List, [], ◌∷◌}
use lib.Dec.{eqb}
use lib.ListN.{get_or}
use Rattle.lists.specs.Lists.{range, only, keep, any_of, each}
use Rattle.hall.specs.Hall.{Hall, wrong_side, wrong_byte, wrong_bytes, is_open}
use Rattle.hall.specs.Moves.{row_changes, col_changes, on_grid, cell_at, landing, reach_from, reach, may_follow}
use Rattle.hall.specs.Landing.{landed}
use Rattle.std.specs.Prelude.{Some}

-- 2 by 2: 0 is open, 1 closed, 2 and 3 open; and four open cells with a byte too many
abbrev corner : Hall
corner = record { width = 2; height = 2; bytes = 46 ∷ 35 ∷ 46 ∷ 46 ∷ [] }

abbrev overlong : Hall
overlong = record { width = 2; height = 2; bytes = 46 ∷ 46 ∷ 46 ∷ 46 ∷ 46 ∷ [] }

-- ---- Grid::new

-- 16 columns refused
pub sixteen_refused : true ≡ (wrong_side 16 || wrong_side 1) → ⊥
unfolding wrong_side
sixteen_refused e = true≢false e

-- only the width looked at
pub height_not_asked : false ≡ (wrong_side 3 || wrong_side 17) → ⊥
unfolding wrong_side
height_not_asked e = true≢false (sym e)

-- ---- wrong_bytes

-- a byte too many accepted
pub more_bytes_accepted : false ≡ wrong_bytes overlong → ⊥
unfolding wrong_bytes
more_bytes_accepted e = true≢false (sym e)

-- a closed cell's byte taken as wrong
pub closed_refused : true ≡ wrong_bytes corner → ⊥
unfolding wrong_bytes wrong_byte any_of
closed_refused e = true≢false e

-- ---- is_open

-- a closed cell
pub closed_open : true ≡ is_open corner 1 → ⊥
unfolding is_open
closed_open e = true≢false e

-- the cell after the last, since there is a byte
pub past_the_grid_open : true ≡ is_open overlong 4 → ⊥
unfolding is_open
past_the_grid_open e = true≢false e

-- ---- down and right

-- the change itself told, not counted one up
pub down_not_counted_up : 1 ≡ get_or row_changes 4 1 → ⊥
down_not_counted_up e = let z : ◌≡◌ {A = ℕ} 1 2 = e in omega arith

pub right_not_counted_up : 1 ≡ get_or col_changes 3 1 → ⊥
right_not_counted_up e = let z : ◌≡◌ {A = ℕ} 1 2 = e in omega arith

-- the change of row told for the change of column, at the move left
pub row_for_column : get_or row_changes 1 1 ≡ get_or col_changes 1 1 → ⊥
row_for_column e = let z : ◌≡◌ {A = ℕ} 1 0 = e in omega arith

-- ---- landing_at and lands_on

-- right from the last column goes on in the next row
pub onto_the_next_row : landed (Some 2) ≡ landing 2 2 0 1 3 → ⊥
unfolding landed landing on_grid only
onto_the_next_row e = let z : ◌≡◌ {A = ℕ} 2 9 = ap (λ (cells : List ℕ). get_or cells 0 9) e in omega arith

-- row × height for row × width, in a hall of 3 by 2
pub height_for_width : landed (Some 2) ≡ landing 3 2 0 0 4 → ⊥
unfolding landed landing on_grid only cell_at
height_for_width e = let z : ◌≡◌ {A = ℕ} 2 3 = ap (λ (cells : List ℕ). get_or cells 0 9) e in omega arith

pub lands_on_the_next_row : true ≡ any_of (eqb 2) (landing 2 2 0 1 3) → ⊥
unfolding landing on_grid only any_of
lands_on_the_next_row e = true≢false e

-- the last row taken as off the grid
pub last_row_off : false ≡ any_of (eqb 2) (landing 2 2 0 0 4) → ⊥
unfolding landing on_grid only cell_at any_of
last_row_off e = true≢false (sym e)

-- ---- follows

-- a closed cell entered
pub closed_entered : true ≡ any_of (eqb 1) (may_follow corner 0) → ⊥
unfolding may_follow reach reach_from landing on_grid only cell_at any_of keep each range is_open
closed_entered e = true≢false e

-- a stay refused
pub stay_refused : false ≡ any_of (eqb 0) (may_follow corner 0) → ⊥
unfolding may_follow reach reach_from landing on_grid only cell_at any_of keep each range is_open
stay_refused e = true≢false (sym e)
