-- `checks::Routes::wrong_at` meets its contract: at the last step the goal decides. Assumes nothing.
use Rattle.checks.specs.Lent.{job_in}
use Rattle.checks.proofs.WalkCode.{at_goal}
use Rattle.checks.proofs.Routes.wrong_at.Goals as goal

pub returns-then-t-self : goal.returns-then-t-self
returns-then-t-self c =
    let a = c.args in
    at_goal (job_in a.self) a.self.plan.now a.i a.t c.wrong_arrival.result c.wrong_arrival.ensures c.if-wrong_arrival.false c.if-t-self.true c.cell.result c.cell.ensures.0
