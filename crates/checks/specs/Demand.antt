-- Demand 3: 'For an accepted job and routes that start, step and end lawfully within the horizon, the plan check passes them exactly when
-- no pattern of holds, each carrier held at most k steps in all, brings two carriers into one cell or through each other, at any moment
-- from the start on, the time after the last step included.' With P3's 'each carrier's own slip' for k.
-- 'Passing both is what demand 3 calls the plan check.'
use Rattle.std.specs.Prelude.{ℕ, ◌≤◌, ◌<◌, ◌≡◌, List, length}
use Rattle.hall.specs.Near.{Neighbours}
use Rattle.job.specs.Job.{Job, plan_length}
use Rattle.routes.specs.Route.{Lawful, route_in}
use Rattle.routes.specs.Check.{route_verdict, route_told}
use Rattle.clashes.specs.Check.{plan_travel, meeting_verdict, meeting_told}
use Rattle.clashes.specs.Holds.{Survives, SurvivesNear}

-- the bytes hold a lawful route for each carrier
pub record LawfulRoutes (job : Job) (plan : List ℕ) : Type 0 where
  pub long : plan_length job ≤ length plan
  pub lawful : (i : ℕ) → i < job.count → Lawful job i (route_in job.horizon plan i)

-- both checks say 0
pub record Passes (job : Job) (plan : List ℕ) : Type 0 where
  pub routes : (route_told (route_verdict job plan)).number ≡ 0
  pub meetings : (meeting_told (meeting_verdict job plan)).number ≡ 0

-- no pattern of holds ever brings two carriers together
abbrev pub Safe : Job → List ℕ → Type 0
Safe job plan = Survives (plan_travel job plan) job.count

-- the same, with document 01's 'neighbouring' in the collision: 'two carriers on one cell at one real moment, or exchanging
-- neighbouring cells in one real step'
abbrev pub SafeNear : Job → List ℕ → Type 0
SafeNear job plan = SurvivesNear (Neighbours job.hall.width) (plan_travel job plan) job.count
