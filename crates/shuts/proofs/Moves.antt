-- The bytes of all cells, made move by move: those of different moves lie apart. What they are, of the closed cells and of the bars of a
-- step. Assumes nothing.
use Prim.Native.Nat.{ℕ, ◌+◌, ◌*◌, max, ◌<◌}
use mathlib.Core.Path.{◌≡◌}
use mathlib.Core.Bool.{not}
use mathlib.Core.List.{List}
use lib.Dec.{eqb}
use lib.ListN.{get_or}
use Rattle.shuts.specs.Shuts.{has_digit, shut_if}
use Rattle.shuts.specs.Post.{KeptBeyond}

abbrev pub closed_mark : List ℕ → ℕ → ℕ
closed_mark hall v = shut_if (not (eqb (get_or hall v 0) 46))

abbrev pub crossing_mark : List ℕ → List ℕ → ℕ → ℕ → ℕ
crossing_mark floor digits m v = max (get_or floor (m * 256 + v) 0) (shut_if (has_digit (get_or digits v 0) m))

-- the bytes of n cells of the first k moves; those that tell the closed cells are as they were
pub record MovesMade (byte : ℕ → ℕ → ℕ) (n k : ℕ) (before after : List ℕ) : Type 0 where
  pub marks : (m v : ℕ) → m < k → v < n → get_or after (m * 256 + v) 0 ≡ byte m v
  pub closed : (v : ℕ) → v < n → get_or after (1280 + v) 0 ≡ get_or before (1280 + v) 0
  pub kept : KeptBeyond n before after
