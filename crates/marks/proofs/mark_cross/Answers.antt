-- `marks::mark_cross` meets its contract: outside, and where no move leads so, nothing is to be marked; otherwise its place in the second
-- plane gets one digit. Assumes nothing.
use Rattle.marks.proofs.Crossings.{cross_late, cross_outside, cross_far, cross_marked}
use Rattle.marks.proofs.mark_cross.Goals.{then-h-step-via-then-h-step, then-h-step-via-else-h-step+then-size-from}
use Rattle.marks.proofs.mark_cross.Goals as goal

pub returns-then-h-step : goal.returns-then-h-step
returns-then-h-step c =
    let a = c.args in
    elim c.then-h-step.branch [
      | then-h-step-via-then-h-step w ↦ cross_late a.grid.width a.grid.height a.h a.from a.to a.step a.layers.now w.if-h-step.true
      | then-h-step-via-else-h-step+then-size-from w ↦ cross_outside a.grid.width a.grid.height a.h a.from a.to a.step a.layers.now (rw c.size-size.ensures at w.if-size-from.true)
    ]

pub returns-in-Some : goal.returns-in-Some
returns-in-Some c =
    let a = c.args in
    rw c.size-size.ensures
    (cross_marked a.grid.width a.grid.height a.h a.from a.to a.step a.layers.now c.in-Some.m c.with_digit.result c.requires c.if-h-step.false (rw c.size-size.ensures at c.if-size-from.false) c.in-Some.ensures (rw c.size-size.ensures at c.with_digit.ensures))

pub returns-in_default : goal.returns-in_default
returns-in_default c =
    let a = c.args in
    cross_far a.grid.width a.grid.height a.h a.from a.to a.step a.layers.now c.in_default.ensures
