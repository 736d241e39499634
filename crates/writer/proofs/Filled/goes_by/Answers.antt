-- `writer::Filled::goes_by` meets its contract: the cell that the move leads to lies in the next layer. Assumes nothing.
use Prim.Native.Nat.{◌/◌, ◌%◌}
use native.Mathlib.Omega.{arith}
use Rattle.writer.proofs.StepLaws.{landed_inside}
use Rattle.writer.proofs.Filled.goes_by.Goals as goal

pub left-requires : goal.left-requires
left-requires c =
    let a = c.args in
    let grid = a.self.grid in
    (omega arith, landed_inside grid.width grid.height (a.v / grid.width) (a.v % grid.width) a.m c.in_ok-w.w c.landing_at.result c.landing_at.ensures (cc))
