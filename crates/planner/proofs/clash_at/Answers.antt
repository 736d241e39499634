-- The stretch stands inside the plans. Assumes nothing.
use mathlib.Core.Path.{◌∙◌}
use Rattle.planner.proofs.Cells.{clash_read}
use Rattle.planner.proofs.clash_at.Goals as goal

pub returns : goal.returns
returns c =
    let a = c.args in
    let first-clash = c.first_clash in
    let stretch-of = c.stretch_of-size in
    first-clash.ensures ∙ clash_read a.task a.plans.now a.node stretch-of.result stretch-of.ensures
