-- The cell stands inside the node's stretch, and it is the one that the node's routes have. Assumes nothing.
use Prim.Native.Nat.{◌+◌, ◌*◌}
use native.Mathlib.Omega.{arith}
use Rattle.planner.proofs.Cells.{cell_inside, cell_read}
use Rattle.planner.proofs.cell_of.Goals as goal

pub bounds-plans-node : goal.bounds-plans-node
bounds-plans-node c =
    let a = c.args in
    let pre = c.requires in
    let stretch-of = c.stretch_of in
    omega (arith, cell_inside a.task a.plans.now a.node pre.placed stretch-of.result stretch-of.ensures a.carrier a.step pre.in_range.0 pre.in_range.1)

pub returns : goal.returns
returns c =
    let a = c.args in
    let pre = c.requires in
    let stretch-of = c.stretch_of in
    let shared-slice-known2 = c.shared_slice_known-2-1 in
    (cell_read a.task a.plans.now a.node stretch-of.result stretch-of.ensures a.carrier a.step pre.in_range.0 pre.in_range.1, omega (arith, shared-slice-known2.given (a.node * stretch-of.result + a.carrier * (a.task.job.horizon + 1) + a.step)))
