-- `checks::Routes::first_wrong_place` meets its contract: no carrier that was passed has a wrong step, so the first place is that of the carriers that are left. Assumes nothing.
use Prim.Native.Nat.{◌-◌}
use mathlib.Core.Path.{◌≡◌}
use Rattle.lists.specs.Lists.{range, each, first_of}
use Rattle.routes.specs.Check.{first_wrong_place}
use Rattle.checks.specs.Lent.{job_in, cell_in}
use Rattle.checks.specs.Walk.{wrong_place, places_of}
use Rattle.checks.proofs.Routes.first_wrong_place.Given as goal

abbrev pub invariant-loop-carrier : goal.invariant-loop-carrier
invariant-loop-carrier l =
    first_wrong_place (job_in l.self) (cell_in l.self) ≡ first_of (wrong_place (job_in l.self) l.self.plan.now) (each (places_of l.self.job.horizon) (range l.carrier (l.self.job.team.count - l.carrier)))
