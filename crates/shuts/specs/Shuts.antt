-- Which moves are shut at a step: a byte for each of the five moves and each cell, 255 where the move leaves the grid sideways or has its
-- digit set, otherwise 0; and a byte for each cell, 255 where it is closed. Not a reader's business: the law `digit_turns` of crate layers
-- ties it to where a carrier may turn.
use Rattle.std.specs.Prelude.{ℕ, ◌+◌, ◌*◌, ◌/◌, ◌%◌, ◌^◌, ◌<◌, ◌≡◌, Bool, true, false, not, ◌&&◌, ◌||◌, List, [], eqb, get_or}
use Rattle.lists.specs.Lists.{range, each}
use Rattle.hall.specs.Hall.{Hall, size, is_open}
use Rattle.hall.specs.Moves.{landing, move_count}

-- is the binary digit of move m set: does a bar forbid the move?
unfoldable pub has_digit : ℕ → ℕ → Bool
has_digit digits m = eqb (digits / 2 ^ m % 2) 1

unfoldable pub unless : Bool → List ℕ → List ℕ
unless true ws = []
unless false ws = ws

-- the cells that the moves lead to whose digits are not set
unfoldable pub turns_by : ℕ → ℕ → ℕ → ℕ → List ℕ
turns_by width height v digits = each (λ m. unless (has_digit digits m) (landing width height (v / width) (v % width) m)) (range 0 move_count)

-- a move that would leave the grid sideways; up and down it never comes to that, since the slate has pads there (crate layers)
unfoldable pub aside : ℕ → ℕ → ℕ → Bool
aside width v m = (eqb m 1 && eqb (v % width) 0) || (eqb m 3 && eqb (v % width + 1) width)

unfoldable pub shut_if : Bool → ℕ
shut_if true = 255
shut_if false = 0

-- move by move a byte for each of 256 cells, 255 where the move is shut, and after the five moves one that is 255 where the cell is closed
pub record Shut (hall : Hall) (digits : ℕ → ℕ) (shuts : List ℕ) : Type 0 where
  pub marks : (m v : ℕ) → m < move_count → v < size hall → get_or shuts (m * 256 + v) 0 ≡ shut_if (aside hall.width v m || has_digit (digits v) m)
  pub closed : (v : ℕ) → v < size hall → get_or shuts (1280 + v) 0 ≡ shut_if (not (is_open hall v))

-- the floor: what no bar changes
abbrev pub Floor : Hall → List ℕ → Type 0
Floor hall floor = Shut hall (λ v. 0) floor
