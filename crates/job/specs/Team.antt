-- The job that a caller lends as numbers, hall bytes and the carriers by value.
use Rattle.std.specs.Prelude.{ℕ, List, get_or}
use Rattle.hall.specs.Hall.{Hall}
use Rattle.job.specs.Job.{Job}
use Rattle.job.specs.declared.Team.{Team}
use Rattle.job.specs.declared.LentJob.{LentJob}

-- width, height, hall bytes, carriers, H
abbrev pub job_of : ℕ → ℕ → List ℕ → Team → ℕ → Job
job_of width height bytes team h =
    record {
      hall = record { width = width; height = height; bytes = bytes };
      count = team.count;
      start_of = λ i. get_or team.starts i 0;
      goal_of = λ i. get_or team.goals i 0;
      slip_of = λ i. get_or team.slips i 0;
      horizon = h;
    }

-- the carriers in a hall, for the checks 5, 6 and 16, none of which looks at H
abbrev pub team_in : Hall → Team → Job
team_in hall team = job_of hall.width hall.height hall.bytes team 0

-- a lent job, as the definitions read it
abbrev pub lent_job : LentJob → Job
lent_job job = job_of job.width job.height job.hall.now job.team job.horizon
