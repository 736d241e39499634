-- `checks::needed_length` meets its contract: at most 8 routes of at most 64 cells fit a number. Assumes nothing.
use Prim.Native.Nat.{◌+◌, ◌≤◌}
use native.Mathlib.Nat.{mul-le-mul}
use native.Mathlib.Omega.{arith}
use Rattle.checks.proofs.needed_length.Goals as goal

pub overflow_mul-result : goal.overflow_mul-result
overflow_mul-result c =
    let rows : c.args.h + 1 ≤ 64 = omega arith in
    omega (arith, mul-le-mul c.requires.0 rows)
