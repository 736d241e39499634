-- The contract of each check is an equation, so two results that it allows are equal. Assumes nothing.
use Prim.Native.Nat.{ℕ}
use mathlib.Core.Path.{◌≡◌}
use mathlib.Core.List.{List}
use Rattle.job.specs.Job.{Job}
use Rattle.routes.specs.Check.{RouteVerdict, route_verdict}
use Rattle.clashes.specs.Check.{MeetingVerdict, meeting_verdict}

pub check_routes_settled : (job : Job) (plan : List ℕ) (r r' : RouteVerdict) → r ≡ route_verdict job plan → r' ≡ route_verdict job plan → r ≡ r'
check_routes_settled job plan r r' e e' = cc

pub check_meetings_settled : (job : Job) (plan : List ℕ) (m m' : MeetingVerdict) → m ≡ meeting_verdict job plan → m' ≡ meeting_verdict job plan → m ≡ m'
check_meetings_settled job plan m m' e e' = cc
