-- The five moves: no change, counted one up, is more than 2. Assumes nothing.
use Prim.Native.Nat.{ℕ, zero, suc, ◌≤◌}
use native.Mathlib.Omega.{arith}
use mathlib.Core.List.{List, [], ◌∷◌}
use lib.Dec.{lit≤}
use lib.ListN.{get_or}
use Rattle.lists.specs.Lists.{Every}
use Rattle.hall.specs.Moves.{row_changes, col_changes}

-- no move goes more than one row or column on
small_at : (xs : List ℕ) → Every (λ x. x ≤ 2) xs → (m : ℕ) → get_or xs m 1 ≤ 2
unfolding Every
small_at [] h m = omega arith
small_at (x ∷ xs) h zero = h.0
small_at (x ∷ xs) h (suc m) = small_at xs h.1 m

pub row_change_small : (m : ℕ) → get_or row_changes m 1 ≤ 2
unfolding Every
row_change_small m = small_at row_changes (lit≤ tt, (lit≤ tt, (lit≤ tt, (lit≤ tt, (lit≤ tt, tt))))) m

pub col_change_small : (m : ℕ) → get_or col_changes m 1 ≤ 2
unfolding Every
col_change_small m = small_at col_changes (lit≤ tt, (lit≤ tt, (lit≤ tt, (lit≤ tt, (lit≤ tt, tt))))) m
