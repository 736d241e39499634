-- Two results that the planner's contract allows, with the tables they leave, are equal: both are what the definitions give.
-- Assumes nothing.
use Prim.Native.Nat.{ℕ}
use mathlib.Core.Path.{◌≡◌, sym, ◌∙◌}
use Rattle.job.specs.Job.{Job}
use Rattle.tables.specs.Tables.{Tables}
use Rattle.planner.specs.Post.{Planned}
use Rattle.planner.specs.Answer.{Answer}

pub plan_settled : (job : Job) (capacity : ℕ) (before : Tables) (r r' : Answer) (after after' : Tables) → Planned job capacity before r after → Planned job capacity before r' after' → (r ≡ r') × (after ≡ after')
plan_settled job capacity before r r' after after' p q = (p.told ∙ sym q.told, p.tables ∙ sym q.tables)
