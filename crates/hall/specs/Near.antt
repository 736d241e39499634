-- Document 01: 'From a cell a carrier may go one cell up, left, right or down, or stay'; two that swap 'exchange neighbouring
-- cells'.
use Rattle.std.specs.Prelude.{ℕ, ◌+◌, ◌/◌, ◌%◌, ◌≤◌, ◌≡◌, ◌⊎◌}

-- one cell up, left, right or down, or the same cell: the row is the same and the columns differ by one at most, or the column is
-- the same and the rows do
unfoldable pub Near : ℕ → ℕ → ℕ → Type 0
Near width u v =
    ((u / width ≡ v / width) × (u % width ≤ v % width + 1) × (v % width ≤ u % width + 1))
    ⊎ ((u % width ≡ v % width) × (u / width ≤ v / width + 1) × (v / width ≤ u / width + 1))

-- 'neighbouring cells'
pub record Neighbours (width u v : ℕ) : Type 0 where
  pub near : Near width u v
  pub different : u ≡ v → ⊥
