-- `checks::Routes::wrong_arrival` meets its contract: at step 0 the start decides. Assumes nothing.
use Rattle.checks.specs.Lent.{job_in}
use Rattle.checks.proofs.WalkCode.{arrival_start}
use Rattle.checks.proofs.Routes.wrong_arrival.Goals as goal

pub returns-then-t-eq0 : goal.returns-then-t-eq0
returns-then-t-eq0 c =
    let a = c.args in
    arrival_start (job_in a.self) a.self.plan.now a.i a.t c.if-t-eq0.true c.cell.result c.cell.ensures.0
