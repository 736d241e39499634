-- `marks::mark_stay` meets its contract: steps first to t are marked, one more at each turn, and no other place has changed. Assumes nothing.
use Prim.Native.Nat.{◌+◌, ◌*◌}
use native.Mathlib.Omega.{arith}
use Rattle.lent.proofs.Keeping.{same_set}
use Rattle.marks.proofs.Places.{bounds}
use Rattle.marks.proofs.Stays.{stayed_more, stayed_marked, stay_outside}
use Rattle.marks.proofs.mark_stay.Goals as goal

pub returns-then-size-cell : goal.returns-then-size-cell
returns-then-size-cell c =
    let a = c.args in
    stay_outside a.grid.width a.grid.height a.h a.cell a.first a.last a.layers.now (rw c.size-size.ensures at c.if-size-cell.true)

pub loop-t-preserved : goal.loop-t-preserved
loop-t-preserved c =
    let a = c.args in
    let l = c.loop-t in
    let b = bounds a.grid.width a.grid.height a.h l.t a.cell a.layers.now c.requires (omega (arith, c.min-end.ensures)) (rw c.size-size.ensures at c.if-size-cell.false) in
    rw c.size-size.ensures
    (omega arith, omega arith, stayed_more (a.grid.width * a.grid.height) a.cell a.first l.t a.layers.now l.layers l.invariant.0 (omega (arith, l.invariant.3.long)) (rw c.size-size.ensures at l.invariant.2), same_set ((a.h + 1) * (a.grid.width * a.grid.height) + (a.h + 1) * (a.grid.width * a.grid.height)) a.layers.now l.layers (l.t * (a.grid.width * a.grid.height) + a.cell) 255 (omega arith) (rw c.size-size.ensures at l.invariant.3))

pub returns : goal.returns
returns c =
    let a = c.args in
    let l = c.loop-t in
    let e = c.min-end.ensures in
    stayed_marked a.grid.width a.grid.height a.h a.cell a.first a.last l.t a.layers.now l.layers (record { started = l.invariant.0; ended = omega arith; past = omega arith }) (rw c.size-size.ensures at c.if-size-cell.false) (rw c.size-size.ensures at l.invariant.2) (rw c.size-size.ensures at l.invariant.3)
