-- With every slip k, and k at most 4, both plan checks say what they said with one k. Assumes nothing.
use Prim.Native.Nat.{ℕ, ◌≤◌}
use mathlib.Core.Path.{◌≡◌, ap, ap₂}
use mathlib.Core.Bool.{true, false}
use mathlib.Core.List.{List}
use lib.Dec.{ltb}
use lib.ListN.{length}
use Rattle.job.specs.Job.{plan_length}
use Rattle.std.specs.Prelude.{Ok, Err}
use Rattle.job.specs.Verdict.{Verdict, judge, if_accepted}
use Rattle.job.specs.declared.CheckRefusal.TheVariants.{Job as OfJob, Short}
use Rattle.routes.specs.Check.{wrong_arrival, wrong_at, first_wrong_place, plan_verdict, route_verdict}
use Rattle.clashes.specs.Check.{MeetingVerdict, plan_travel, plan_clash, compared, meeting_verdict}
use Rattle.clashes.specs.declared.Clash.{Clash}
use Rattle.equal_slips.specs.Job.{OneJob, with_slips, EverySlip, slipless}
use Rattle.equal_slips.specs.Check.{plan_verdict_by_k, route_verdict_by_k, plan_clash_by_k, compared_by_k, meeting_verdict_by_k}
use Rattle.equal_slips.proofs.Judged.{judged_same}
use Rattle.equal_slips.proofs.Chosen.{chosen_same}

module _ (one : OneJob) (slipOf : ℕ → ℕ) (equal : EverySlip one slipOf) (most : one.delay ≤ 4) (plan : List ℕ) where
  pub route_check_same : route_verdict (with_slips one slipOf) plan ≡ route_verdict_by_k one plan
  unfolding route_verdict route_verdict_by_k judge plan_verdict plan_verdict_by_k first_wrong_place wrong_at wrong_arrival
  route_check_same = ap (λ (v : Verdict). if_accepted v (plan_verdict_by_k one plan) (λ r. Err (OfJob r))) (judged_same one slipOf equal most false)

  compared_same : compared (with_slips one slipOf) plan ≡ compared_by_k one plan
  unfolding compared compared_by_k plan_clash plan_clash_by_k
  compared_same =
      ap (λ (c : Clash). elim (ltb (length plan) (plan_length (slipless one))) as (λ _. MeetingVerdict) [ true ↦ Err (Short (plan_length (slipless one))) | false ↦ Ok c ])
      (chosen_same (plan_travel (with_slips one slipOf) plan) one.delay one.count equal)

  pub meeting_check_same : meeting_verdict (with_slips one slipOf) plan ≡ meeting_verdict_by_k one plan
  unfolding meeting_verdict meeting_verdict_by_k judge
  meeting_check_same = ap₂ (λ (v : Verdict) (on : MeetingVerdict). if_accepted v on (λ r. Err (OfJob r))) (judged_same one slipOf equal most false) compared_same
