-- Equal slips keep every answer: the checks come first and say the same, the tree is the same, and what is made of its end reads no
-- slip. Assumes nothing.
use Prim.Native.Nat.{ℕ, ◌≤◌}
use mathlib.Core.Path.{◌≡◌, refl, ap, ap₂, ◌∙◌}
use mathlib.Core.Option.{Option, none, some}
use Rattle.job.specs.Job.{wrong_capacity}
use Rattle.std.specs.Prelude.{Err}
use Rattle.job.specs.Verdict.{Verdict, if_accepted}
use Rattle.search.specs.Search.{Outcome, done, full}
use Rattle.tree.specs.Plan.{total}
use Rattle.tree.specs.Tree.{Node, node_sum}
use Rattle.tables.specs.Tables.{Tables, first_short, worked_on, plan_written, with_plan}
use Rattle.planner.specs.Answer.{Result, searched, if_long, enough, planned}
use Rattle.planner.specs.declared.answer.Denial.TheVariants.{Job as OfJob}
use Rattle.carriers.specs.Lent.{bytes_team, records_team}
use Rattle.equal_slips.specs.Job.{OneJob, with_slips, EverySlip, one_job_of}
use Rattle.equal_slips.specs.Answer.{searched_by_k, if_long_by_k, enough_by_k, planned_by_k}
use Rattle.equal_slips.specs.Same.{AcceptedKeeps, SmallKeeps, RecordsKeep, BytesKeep}
use Rattle.equal_slips.proofs.Judged.{judged_same, accepted_small}
use Rattle.equal_slips.proofs.Tree.{tree_same}
use Rattle.equal_slips.proofs.Check.{route_check_same, meeting_check_same}
use Rattle.equal_slips.proofs.Lent.{slips_of, records_every_slip, bytes_every_slip}

module _ (one : OneJob) (slipOf : ℕ → ℕ) (n : ℕ) (ts : Tables) where
  searched_same : (o : Outcome Node) → searched (with_slips one slipOf) n ts o ≡ searched_by_k one n ts o
  unfolding searched searched_by_k node_sum total worked_on with_plan plan_written
  searched_same (done (some x) r) = refl
  searched_same (done none r) = refl
  searched_same (full r) = refl

  if_long_same : (o : Option ℕ) (rest : Result) → if_long (with_slips one slipOf) n ts o rest ≡ if_long_by_k one n ts o rest
  unfolding if_long if_long_by_k
  if_long_same none rest = refl
  if_long_same (some t) rest = refl

  module _ (equal : EverySlip one slipOf) where
    enough_same : enough (with_slips one slipOf) n ts ≡ enough_by_k one n ts
    unfolding enough enough_by_k first_short
    enough_same =
        if_long_same _ _
        ∙ ap (if_long_by_k one n ts _) (searched_same _ ∙ ap (searched_by_k one n ts) (tree_same one slipOf equal n))

    planned_same : one.delay ≤ 4 → planned (with_slips one slipOf) n ts ≡ planned_by_k one n ts
    unfolding planned planned_by_k
    planned_same most =
        ap₂ (λ (v : Verdict) (on : Result). if_accepted v on (λ r. record { answer = Err (OfJob r); tables = ts }))
        (judged_same one slipOf equal most (wrong_capacity n)) enough_same

pub small_keeps : SmallKeeps
small_keeps one slipOf equal most =
    record {
      answers = λ n before. planned_same one slipOf n before equal most;
      contract = λ n before answer after c.
          let same = planned_same one slipOf n before equal most in
          (c.told ∙ ap (λ (r : Result). r.answer) same, c.tables ∙ ap (λ (r : Result). r.tables) same);
      routes = route_check_same one slipOf equal most;
      meetings = meeting_check_same one slipOf equal most;
    }

pub accepted_keeps : AcceptedKeeps
accepted_keeps one slipOf equal wrongN accepted = small_keeps one slipOf equal (accepted_small one wrongN accepted).delay

pub records_keep : RecordsKeep
records_keep width height bytes records k h equal wrongN accepted =
    let one : OneJob = one_job_of width height bytes (records_team records) k h in
    accepted_keeps one (slips_of (records_team records))
    (records_every_slip width height bytes k h records (accepted_small one wrongN accepted).count equal) wrongN accepted

pub bytes_keep : BytesKeep
bytes_keep width height bytes body k h equal wrongN accepted =
    let one : OneJob = one_job_of width height bytes (bytes_team body) k h in
    accepted_keeps one (slips_of (bytes_team body))
    (bytes_every_slip width height bytes k h body (accepted_small one wrongN accepted).count equal) wrongN accepted
