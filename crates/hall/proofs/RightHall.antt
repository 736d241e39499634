-- The tests of a hall as facts: a side that is not wrong is 1 to 16, bytes that are not wrong are width × height many. By the
-- laws of the tests that they are made of. Assumes nothing.
use Prim.Native.Nat.{ℕ, ◌≤◌}
use native.Mathlib.Omega.{arith}
use mathlib.Core.Path.{◌≡◌}
use mathlib.Core.Bool.{false, not}
use lib.Dec.{eqb, ltb}
use lib.ListN.{length}
use borrow.Author.Tests.{eqb-true, eqb-false, ltb-false, not-false}
use Rattle.lists.specs.Lists.{any_of}
use Rattle.lists.proofs.Tests.{or_fails}
use Rattle.hall.specs.Hall.{Hall, size, wrong_side, wrong_grid, wrong_byte, wrong_bytes}

side_right : (n : ℕ) → wrong_side n ≡ false → (1 ≤ n) × (n ≤ 16)
unfolding wrong_side
side_right n e =
    let (z, l) = or_fails (eqb n 0) (ltb 16 n) e in
    let some : n ≡ 0 → ⊥ = eqb-false n 0 z in
    let most : n ≤ 16 = ltb-false 16 n l in
    omega (arith, some)

pub grid_right : (hall : Hall) → wrong_grid hall ≡ false → ((1 ≤ hall.width) × (hall.width ≤ 16)) × ((1 ≤ hall.height) × (hall.height ≤ 16))
unfolding wrong_grid
grid_right hall e =
    let (w, h) = or_fails (wrong_side hall.width) (wrong_side hall.height) e in
    (side_right hall.width w, side_right hall.height h)

pub bytes_right : (hall : Hall) → wrong_bytes hall ≡ false → length hall.bytes ≡ size hall
unfolding wrong_bytes
bytes_right hall e =
    let (l, b) = or_fails (not (eqb (length hall.bytes) (size hall))) (any_of wrong_byte hall.bytes) e in
    eqb-true (length hall.bytes) (size hall) (not-false (eqb (length hall.bytes) (size hall)) l)
