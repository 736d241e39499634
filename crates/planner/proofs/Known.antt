-- What the planner's number tells of the job: 1 to 6 and 16 refuse it, the others come of an accepted job. Assumes nothing.
use Prim.Native.Nat.{ℕ, ◌≤◌}
use native.Mathlib.Omega.{arith}
use mathlib.Core.Logic.{◌⊎◌, inl, inr}
use mathlib.Core.Option.{Option, none, some}
use mathlib.Core.Path.{◌≡◌}
use Rattle.job.specs.Job.{Job, wrong_capacity}
use Rattle.job.specs.Verdict.{refusal_told, judge_with}
use Rattle.job.proofs.Refused.{Refusing, refusal_numbered}
use Rattle.search.specs.Search.{Outcome, done, full}
use Rattle.tree.specs.Tree.{Node, tree}
use Rattle.tables.specs.Tables.{Tables, first_short}
use Rattle.std.specs.Prelude.{Ok, Err}
use Rattle.planner.specs.Answer.{Answer, Result, answer_told, searched, if_long, enough, planned}
use Rattle.planner.specs.declared.answer.Denial.TheVariants.{Job as OfJob, Short, NoPlan, Full}
use Rattle.planner.proofs.Checked.{planned_either}

unfoldable pub Known : Job → ℕ → Tables → Answer → Type 0
Known job n ts (Ok p) = judge_with (wrong_capacity n) job ≡ Ok tt
Known job n ts (Err (OfJob r)) = (judge_with (wrong_capacity n) job ≡ Err r) × Refusing (refusal_told r).number
Known job n ts (Err (Short t l)) = judge_with (wrong_capacity n) job ≡ Ok tt
Known job n ts (Err (NoPlan r)) = judge_with (wrong_capacity n) job ≡ Ok tt
Known job n ts (Err (Full r)) = judge_with (wrong_capacity n) job ≡ Ok tt

abbrev KnownOf : Job → ℕ → Tables → Result → Type 0
KnownOf job n ts result = Known job n ts result.answer

module _ (job : Job) (n : ℕ) (ts : Tables) where
  searched_known : (o : Outcome Node) → judge_with (wrong_capacity n) job ≡ Ok tt → KnownOf job n ts (searched job n ts o)
  unfolding Known searched
  searched_known (done (some x) r) e = e
  searched_known (done none r) e = e
  searched_known (full r) e = e

  enough_known : judge_with (wrong_capacity n) job ≡ Ok tt → KnownOf job n ts (enough job n ts)
  unfolding Known enough if_long
  enough_known e = go (first_short job n ts)
    where
      go : (o : Option ℕ) → KnownOf job n ts (if_long job n ts o (searched job n ts (tree job n)))
      go (some t) = e
      go none = searched_known (tree job n) e

  pub known : Known job n ts (planned job n ts).answer
  unfolding Known
  known = planned_either job n ts (KnownOf job n ts) enough_known (λ r e. (e, refusal_numbered r))

-- 0 to 9, or 16
pub numbered : (job : Job) (n : ℕ) (ts : Tables) (answer : Answer) → Known job n ts answer → ((answer_told answer).number ≤ 9) ⊎ ((answer_told answer).number ≡ 16)
unfolding Known Refusing
numbered job n ts (Ok p) k = inl (omega arith)
numbered job n ts (Err (OfJob r)) (is, inl (low, high)) = inl (omega arith)
numbered job n ts (Err (OfJob r)) (is, inr e) = inr e
numbered job n ts (Err (Short t l)) k = inl (omega arith)
numbered job n ts (Err (NoPlan r)) k = inl (omega arith)
numbered job n ts (Err (Full r)) k = inl (omega arith)
