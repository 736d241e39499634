-- What `planned` is where the job is accepted, and where it is not. Assumes nothing.
use Prim.Native.Nat.{ℕ}
use mathlib.Core.Logic.{◌⊎◌, inl, inr}
use mathlib.Core.Path.{◌≡◌, sym, subst}
use Rattle.job.specs.Job.{Job, wrong_capacity}
use Rattle.job.specs.Verdict.{Verdict, judge_with}
use Rattle.job.specs.declared.Refusal.{Refusal}
use Rattle.std.specs.Prelude.{Ok, Err}
use Rattle.job.proofs.Refused.{accepted_or_refused, if_accepted_lem, if_refused}
use Rattle.tables.specs.Tables.{Tables}
use Rattle.planner.specs.Answer.{Result, enough, planned}
use Rattle.planner.specs.declared.answer.Denial.TheVariants.{Job as OfJob}

-- what is refused is not accepted
pub refused_alone : {v : Verdict} (r : Refusal) → v ≡ Err r → v ≡ Ok tt → ⊥
refused_alone r e f = cc (e, f)

module _ (job : Job) (n : ℕ) (ts : Tables) where
  abbrev pub refused_by : Refusal → Result
  refused_by r = record { answer = Err (OfJob r); tables = ts }

  pub planned_accepted : judge_with (wrong_capacity n) job ≡ Ok tt → planned job n ts ≡ enough job n ts
  unfolding planned
  planned_accepted = if_accepted_lem (judge_with (wrong_capacity n) job) (enough job n ts) refused_by

  pub planned_refused : (r : Refusal) → judge_with (wrong_capacity n) job ≡ Err r → planned job n ts ≡ refused_by r
  unfolding planned
  planned_refused r = if_refused (judge_with (wrong_capacity n) job) r (enough job n ts) refused_by

  -- what holds of either holds
  pub planned_either : (P : Result → Type 0) → (judge_with (wrong_capacity n) job ≡ Ok tt → P (enough job n ts)) → ((r : Refusal) → judge_with (wrong_capacity n) job ≡ Err r → P (refused_by r)) → P (planned job n ts)
  planned_either P accepts refuses = go (accepted_or_refused (judge_with (wrong_capacity n) job))
    where
      go : (judge_with (wrong_capacity n) job ≡ Ok tt) ⊎ ((r : Refusal) × (judge_with (wrong_capacity n) job ≡ Err r)) → P (planned job n ts)
      go (inl e) = subst P (sym (planned_accepted e)) (accepts e)
      go (inr (r, e)) = subst P (sym (planned_refused r e)) (refuses r e)
