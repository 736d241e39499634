-- Document 01, 'The floor and the job': the hall, its open cells, and what answers 1 and 2 look at.
use Rattle.std.specs.Prelude.{ℕ, ◌*◌, Bool, not, ◌&&◌, ◌||◌, List, eqb, ltb, length, get_or}
use Rattle.lists.specs.Lists.{any_of}

pub record Hall : Type 0 where
  pub width : ℕ
  pub height : ℕ
  pub bytes : List ℕ

-- 'A hall byte is 46 ('.', open) or 35 ('#', closed).'
abbrev pub open_byte : ℕ
open_byte = 46

abbrev pub closed_byte : ℕ
closed_byte = 35

-- 'A hall is a grid of 1 to 16 columns (width) by 1 to 16 rows (height).'
abbrev pub most_side : ℕ
most_side = 16

abbrev pub size : Hall → ℕ
size hall = hall.width * hall.height

unfoldable pub wrong_side : ℕ → Bool
wrong_side n = eqb n 0 || ltb most_side n

-- answer 1: 'width or height is 0 or above 16'
unfoldable pub wrong_grid : Hall → Bool
wrong_grid hall = wrong_side hall.width || wrong_side hall.height

unfoldable pub wrong_byte : ℕ → Bool
wrong_byte b = not (eqb b open_byte || eqb b closed_byte)

-- answer 2: 'the hall hasn't width × height bytes, or a byte is neither 46 nor 35'
unfoldable pub wrong_bytes : Hall → Bool
wrong_bytes hall = not (eqb (length hall.bytes) (size hall)) || any_of wrong_byte hall.bytes

-- a cell of the grid that is not closed; 'a cell's number is row × width + column, row 0 at the top'
unfoldable pub is_open : Hall → ℕ → Bool
is_open hall v = ltb v (size hall) && eqb (get_or hall.bytes v 0) open_byte
