-- `checks::Routes::first_wrong_place` meets its contract: no carrier that was passed has a wrong step, so the first place is that of the carriers that are left. Assumes nothing.
use native.Mathlib.Omega.{arith}
use mathlib.Core.Path.{◌∙◌}
use Rattle.lists.proofs.Loops.{first_each_found, first_each_passed}
use Rattle.checks.specs.Lent.{job_in}
use Rattle.checks.specs.Walk.{place_of, wrong_place, places_of}
use Rattle.checks.proofs.WalkCode.{row_found, row_none}
use Rattle.checks.proofs.Routes.first_wrong_place.Goals as goal

pub returns-in-Some : goal.returns-in-Some
returns-in-Some c =
    let r = c.args.self in
    let l = c.loop-carrier in
    let s = c.first_wrong_step in
    let found = row_found (job_in r) r.plan.now l.carrier s.result s.ensures c.in-Some.step c.in-Some.is in
    l.invariant ∙ first_each_found (wrong_place (job_in r) r.plan.now) (places_of r.job.horizon) l.carrier r.job.team.count (omega arith) (place_of l.carrier c.in-Some.step) found

pub loop-carrier-preserved : goal.loop-carrier-preserved
loop-carrier-preserved c =
    let r = c.args.self in
    let l = c.loop-carrier in
    let s = c.first_wrong_step in
    l.invariant ∙ first_each_passed (wrong_place (job_in r) r.plan.now) (places_of r.job.horizon) l.carrier r.job.team.count (omega arith) (row_none (job_in r) r.plan.now l.carrier s.result s.ensures c.in_default.is)
