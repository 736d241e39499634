-- Two results that the contract of an entry point allows are equal, with the tables they leave: the contracts are those of the
-- planner and the checks, at the team of the lent records. Assumes nothing.
use Prim.Native.Nat.{ℕ}
use mathlib.Core.Path.{◌≡◌}
use mathlib.Core.List.{List}
use Rattle.job.specs.Job.{Job}
use Rattle.job.specs.Team.{job_of}
use Rattle.tables.specs.Tables.{Tables}
use Rattle.routes.specs.Check.{RouteVerdict, route_verdict}
use Rattle.clashes.specs.Check.{MeetingVerdict, meeting_verdict}
use Rattle.checks.proofs.Settled.{check_routes_settled, check_meetings_settled}
use Rattle.planner.specs.Answer.{Answer}
use Rattle.planner.specs.Post.{Planned}
use Rattle.planner.proofs.Settled.{plan_settled}
use Rattle.carriers.specs.Lent.{records_team}
use Rattle.carriers.specs.declared.Carrier.{Carrier}

module _ (width height : ℕ) (hall : List ℕ) (carriers : List Carrier) (h : ℕ) where
  abbrev job : Job
  job = job_of width height hall (records_team carriers) h

  pub entry_plan_settled : (n : ℕ) (before : Tables) (r r' : Answer) (after after' : Tables) → Planned job n before r after → Planned job n before r' after' → (r ≡ r') × (after ≡ after')
  entry_plan_settled = plan_settled job

  pub entry_routes_settled : (plan : List ℕ) (r r' : RouteVerdict) → r ≡ route_verdict job plan → r' ≡ route_verdict job plan → r ≡ r'
  entry_routes_settled = check_routes_settled job

  pub entry_meetings_settled : (plan : List ℕ) (r r' : MeetingVerdict) → r ≡ meeting_verdict job plan → r' ≡ meeting_verdict job plan → r ≡ r'
  entry_meetings_settled = check_meetings_settled job
