-- The contract of the job check is an equation, so two results that it allows are equal. Assumes nothing.
use mathlib.Core.Path.{◌≡◌}
use mathlib.Core.Bool.{Bool}
use Rattle.job.specs.Job.{Job}
use Rattle.job.specs.Verdict.{Verdict, judge_with}

pub judge_job_settled : (wrongN : Bool) (job : Job) (r r' : Verdict) → r ≡ judge_with wrongN job → r' ≡ judge_with wrongN job → r ≡ r'
judge_job_settled wrongN job r r' e e' = cc
