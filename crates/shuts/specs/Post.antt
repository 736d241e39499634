-- What laying the shut moves asks and promises.
use Rattle.std.specs.Prelude.{ℕ, ◌+◌, ◌*◌, max, ◌≤◌, ◌<◌, ◌≡◌, Bool, true, false, List, length, get_or}
use Rattle.hall.specs.Hall.{Hall, size}
use Rattle.hall.specs.Moves.{move_count}
use Rattle.hall.specs.declared.Grid.{Grid}
use Rattle.shuts.specs.Shuts.{has_digit, shut_if, Floor}

-- the hall of the bytes that are lent
abbrev pub lent_hall : Grid → List ℕ → Hall
lent_hall grid bytes = record { width = grid.width; height = grid.height; bytes = bytes }

-- a hall of 1 to 16 columns by 1 to 16 rows, with a byte for each cell
pub record RightGrid (grid : Grid) (bytes : List ℕ) : Type 0 where
  pub some : 1 ≤ grid.width
  pub wide : grid.width ≤ 16
  pub any : 1 ≤ grid.height
  pub high : grid.height ≤ 16
  pub long : length bytes ≡ grid.width * grid.height

-- of the bytes of one move, every stride-th cell from `first` up to `until` is shut, and no other entry has changed
pub record ShutEach (m first until stride : ℕ) (before after : List ℕ) : Type 0 where
  pub long : length after ≡ length before
  pub shut : (k : ℕ) → first + k * stride < until → get_or after (m * 256 + (first + k * stride)) 0 ≡ 255
  pub other : (x : ℕ) → ((k : ℕ) → first + k * stride < until → x ≡ m * 256 + (first + k * stride) → ⊥) → get_or after x 0 ≡ get_or before x 0

-- no byte of a cell from n on has changed, in all six rows of 256
pub record KeptBeyond (n : ℕ) (before after : List ℕ) : Type 0 where
  pub long : length after ≡ length before
  pub rest : (m v : ℕ) → m < 6 → n ≤ v → v < 256 → get_or after (m * 256 + v) 0 ≡ get_or before (m * 256 + v) 0

pub record FloorLaid (hall : Hall) (before after : List ℕ) : Type 0 where
  pub floor : Floor hall after
  pub kept : KeptBeyond (size hall) before after

-- the floor's bytes of n cells, and shut where the digit of the move is set in the layers from an entry on
pub record CrossingsLaid (floor layers : List ℕ) (from n : ℕ) (before after : List ℕ) : Type 0 where
  pub marks : (m v : ℕ) → m < move_count → v < n → get_or after (m * 256 + v) 0 ≡ max (get_or floor (m * 256 + v) 0) (shut_if (has_digit (get_or layers (from + v) 0) m))
  pub closed : (v : ℕ) → v < n → get_or after (1280 + v) 0 ≡ get_or before (1280 + v) 0
  pub kept : KeptBeyond n before after

-- so where some crossing is barred, and otherwise as they were
unfoldable pub LaidAt : Bool → List ℕ → List ℕ → ℕ → ℕ → List ℕ → List ℕ → Type 0
LaidAt true floor layers from n before after = CrossingsLaid floor layers from n before after
LaidAt false floor layers from n before after = after ≡ before
