-- Wrong answers that the contract of `entry_at` rules out, at columns for two nodes that hold 0 to 15, so that each entry is its own
-- place. Assumes nothing.
use Prim.Native.Nat.{ℕ}
use native.Mathlib.Omega.{arith}
use mathlib.Core.Path.{◌≡◌}
use mathlib.Core.List.{List, [], ◌∷◌}
use Rattle.records.specs.Columns.{entry}

abbrev places : List ℕ
places = 0 ∷ 1 ∷ 2 ∷ 3 ∷ 4 ∷ 5 ∷ 6 ∷ 7 ∷ 8 ∷ 9 ∷ 10 ∷ 11 ∷ 12 ∷ 13 ∷ 14 ∷ 15 ∷ []

-- record after record, eight entries each, for column after column
pub record_after_record : 11 ≡ entry 2 places 3 1 → ⊥
record_after_record e = let z : ◌≡◌ {A = ℕ} 11 7 = e in omega arith

-- column and node exchanged
pub column_and_node_exchanged : 5 ≡ entry 2 places 3 1 → ⊥
column_and_node_exchanged e = let z : ◌≡◌ {A = ℕ} 5 7 = e in omega arith
