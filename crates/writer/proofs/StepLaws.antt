-- The cell that a move leads to lies on the grid. Assumes nothing.
use Prim.Native.Nat.{ℕ, ◌-◌, ◌*◌, ◌<◌}
use native.Mathlib.Nat.{mul_comm}
use native.Mathlib.Omega.{arith}
use mathlib.Core.Path.{◌≡◌, refl, sym, ap, subst, ◌∙◌}
use mathlib.Core.List.{Memᴰ}
use lib.Arith.{digits_lt}
use Rattle.std.specs.Prelude.{Option, Some}
use Rattle.lists.proofs.Members.{only_member}
use Rattle.lists.proofs.Tests.{is_true}
use Rattle.hall.specs.Moves.{row_after, col_after, on_grid, cell_at, landing}
use Rattle.hall.specs.Landing.{landed}
use Rattle.hall.proofs.HallCode.{grid_bounds}

pub landed_inside : (width height row col m w : ℕ) (l : Option ℕ) → landed l ≡ landing width height row col m → l ≡ Some w → w < width * height
unfolding landed landing cell_at
landed_inside width height row col m w l q e =
    let (on, there) = only_member {x = w} (on_grid width height (row_after row m) (col_after col m)) (subst (λ ws. Memᴰ w ws) (ap landed (sym e) ∙ q) (Memᴰ.head refl)) in
    let at = grid_bounds width height (row_after row m) (col_after col m) (is_true on) in
    rw (there, mul_comm width height) (digits_lt {q = row_after row m - 1} {m = height} {r = col_after col m - 1} {c = width} (omega (arith, at.0.0, at.0.1)) (omega (arith, at.1.0, at.1.1)))
