-- The entry that a move leads to lies on the slate. Assumes nothing.
use Prim.Native.Nat.{ℕ, zero, suc, ◌+◌, ◌-◌, ◌*◌, ◌≤◌, ◌<◌}
use native.Mathlib.Omega.{arith}
use mathlib.Core.Path.{◌≡◌, refl}
use lib.ListN.{get_or}
use Rattle.hall.specs.Moves.{row_changes, col_changes, move_count}
use Rattle.layers.specs.Fill.{near_entry}

-- ---- the entry that a move leads to

-- where it lies, with the changes d and r of row and column
pub record NearPlace (width at m d r : ℕ) : Type 0 where
  pub down : width * d ≤ width + width
  pub right : r ≤ 2
  pub low : width + 1 ≤ at + width * d + r
  pub high : at + width * d + r - (width + 1) ≤ at + width
  pub above : at ≤ at + width * d + r - (width + 1) + width
  pub entry : at + width * d + r - (width + 1) ≡ near_entry width at m

near_at : (width at m : ℕ) → m < move_count → 1 ≤ width → width ≤ at → NearPlace width at m (get_or row_changes m 1) (get_or col_changes m 1)
unfolding near_entry
near_at width at zero h i j = record { down = omega arith; right = omega arith; low = omega arith; high = omega arith; above = omega arith; entry = refl }
near_at width at (suc zero) h i j = record { down = omega arith; right = omega arith; low = omega arith; high = omega arith; above = omega arith; entry = refl }
near_at width at (suc (suc zero)) h i j = record { down = omega arith; right = omega arith; low = omega arith; high = omega arith; above = omega arith; entry = refl }
near_at width at (suc (suc (suc zero))) h i j = record { down = omega arith; right = omega arith; low = omega arith; high = omega arith; above = omega arith; entry = refl }
near_at width at (suc (suc (suc (suc zero)))) h i j = record { down = omega arith; right = omega arith; low = omega arith; high = omega arith; above = omega arith; entry = refl }
near_at width at (suc (suc (suc (suc (suc m))))) h i j = absurd (omega arith)

pub near_facts : (width at m d r : ℕ) → m < move_count → 1 ≤ width → width ≤ at → d ≡ get_or row_changes m 1 → r ≡ get_or col_changes m 1 → NearPlace width at m d r
near_facts width at m d r h i j e k = rw (e, k) (near_at width at m h i j)

-- an entry of a row above to a row below
pub near_within : (width at m : ℕ) → m < move_count → 1 ≤ width → width ≤ at → (at ≤ near_entry width at m + width) × (near_entry width at m ≤ at + width)
unfolding near_entry
near_within width at m h i j = let b = near_at width at m h i j in (b.above, b.high)
