-- What the planner's contract says: for any job, any N and any tables, answer and tables are those of document 01's definitions, and
-- the promises in plain terms are kept.
use Rattle.std.specs.Prelude.{ℕ, ◌≡◌}
use Rattle.job.specs.Job.{Job}
use Rattle.tables.specs.Tables.{Tables}
use Rattle.planner.specs.Answer.{Answer, planned}
use Rattle.planner.specs.Promises.{Promised}

pub record Planned (job : Job) (capacity : ℕ) (before : Tables) (answer : Answer) (after : Tables) : Type 0 where
  pub told : answer ≡ (planned job capacity before).answer
  pub tables : after ≡ (planned job capacity before).tables
  pub promised : Promised job capacity before answer after
