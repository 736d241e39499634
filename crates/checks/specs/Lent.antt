-- The routes that the route check walks through, as the definitions read them: the job, and the cell of a carrier at a step.
use Rattle.std.specs.Prelude.{ℕ}
use Rattle.job.specs.Job.{Job, plan_cell}
use Rattle.job.specs.Team.{lent_job}
use Rattle.checks.specs.declared.Routes.{Routes}

abbrev pub job_in : Routes → Job
job_in routes = lent_job routes.job

abbrev pub cell_in : Routes → ℕ → ℕ → ℕ
cell_in routes = plan_cell (job_in routes) routes.plan.now
