-- Document 01: 'From a cell a carrier may go one cell up, left, right or down, or stay; a constant table holds the five
-- moves as changes of row and column. It never leaves the grid nor enters a closed cell.'
-- Changes, rows and columns are counted one up here, so that 0 is 'one back' of a change and 'off the grid' of a place.
use Rattle.std.specs.Prelude.{ℕ, ◌+◌, ◌-◌, ◌*◌, ◌/◌, ◌%◌, Bool, ◌&&◌, List, [], ◌∷◌, leb, ltb, get_or}
use Rattle.lists.specs.Lists.{range, only, each, keep}
use Rattle.hall.specs.Hall.{Hall, is_open}

-- the five moves: up, left, stay, right, down
abbrev pub row_changes : List ℕ
row_changes = 0 ∷ 1 ∷ 1 ∷ 1 ∷ 2 ∷ []

abbrev pub col_changes : List ℕ
col_changes = 1 ∷ 0 ∷ 1 ∷ 2 ∷ 1 ∷ []

abbrev pub move_count : ℕ
move_count = 5

-- where move m leads from row and column (from 0): row and column from 1
abbrev pub row_after : ℕ → ℕ → ℕ
row_after row m = row + get_or row_changes m 1

abbrev pub col_after : ℕ → ℕ → ℕ
col_after col m = col + get_or col_changes m 1

unfoldable pub on_grid : ℕ → ℕ → ℕ → ℕ → Bool
on_grid width height r c = ltb 0 r && leb r height && (ltb 0 c && leb c width)

unfoldable pub cell_at : ℕ → ℕ → ℕ → ℕ
cell_at width r c = (r - 1) * width + (c - 1)

-- the cell that move m leads to, or none where it leaves the grid
unfoldable pub landing : ℕ → ℕ → ℕ → ℕ → ℕ → List ℕ
landing width height row col m = only (on_grid width height (row_after row m) (col_after col m)) (cell_at width (row_after row m) (col_after col m))

-- the cells one move or a stay away, rising
unfoldable pub reach_from : ℕ → ℕ → ℕ → ℕ → List ℕ
reach_from width height row col = each (landing width height row col) (range 0 move_count)

unfoldable pub reach : Hall → ℕ → List ℕ
reach hall v = reach_from hall.width hall.height (v / hall.width) (v % hall.width)

-- the cells that may follow v, rising
unfoldable pub may_follow : Hall → ℕ → List ℕ
may_follow hall v = keep (is_open hall) (reach hall v)
