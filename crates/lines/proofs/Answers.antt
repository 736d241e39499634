-- What the planner's answer tells is small, whatever the job: 0, 8 and 9 come of an accepted job, 0 with a least plan in the output.
-- Assumes nothing.
use Prim.Native.Nat.{ℕ, ◌*◌, ◌≤◌, ◌<◌}
use native.Mathlib.Omega.{arith}
use mathlib.Core.List.{List}
use mathlib.Core.Logic.{inl, inr}
use mathlib.Core.Path.{◌≡◌, refl, subst}
use Rattle.std.specs.Prelude.{Ok, Err}
use Rattle.lists.proofs.Sums.{sum_at_most}
use Rattle.job.specs.Job.{Job, wrong_capacity}
use Rattle.job.specs.Verdict.{Verdict, refusal_told, verdict_told, judge_with}
use Rattle.job.proofs.Accepted.{accepted_facts}
use Rattle.job.proofs.Due.{accepted_exactly}
use Rattle.job.proofs.Refused.{refusing_alone}
use Rattle.routes.specs.Route.{Lawful, cost}
use Rattle.routes.proofs.Cost.{cost_least}
use Rattle.tree.specs.Plan.{Routes, route_of, total, Family}
use Rattle.tree.specs.Promises.{LeastPlan}
use Rattle.tables.specs.Tables.{Tables, LongTables, plan_written}
use Rattle.tables.proofs.LongTables.{short_in, short_not_long}
use Rattle.planner.specs.Answer.{Answer, answer_told, planned}
use Rattle.planner.specs.Promises.{Promised}
use Rattle.planner.specs.declared.answer.Denial.TheVariants.{Job as OfJob, Short, NoPlan, Full}
use Rattle.planner.proofs.Answers.{needed_small}
use Rattle.planner.proofs.Known.{Known, known}
use Rattle.planner.proofs.Promises.{planned_promised}
use Rattle.lines.proofs.Small.{Small, counted_small, short_small, judged_small}

-- ---- answer 7

short_by : (job : Job) (n : ℕ) (ts : Tables) (answer : Answer) (after : Tables) → Promised job n ts answer after → Known job n ts answer → (answer_told answer).number ≡ 7
    → (judge_with (wrong_capacity n) job ≡ Ok tt) × (LongTables job n ts → ⊥)
unfolding Promised Known
short_by job n ts (Ok plan) after p k is = absurd (omega arith)
short_by job n ts (Err (OfJob r)) after p k is = absurd (refusing_alone (refusal_told r).number 7 k.1 (inr (omega arith, omega arith)) is)
short_by job n ts (Err (Short t l)) after p k is = (k, short_not_long job n ts t p.2)
short_by job n ts (Err (NoPlan r)) after p k is = absurd (omega arith)
short_by job n ts (Err (Full r)) after p k is = absurd (omega arith)

-- 7 comes of an accepted job and a table that is too short
pub seven_short : (job : Job) (n : ℕ) (ts : Tables) → (answer_told (planned job n ts).answer).number ≡ 7 → (judge_with (wrong_capacity n) job ≡ Ok tt) × (LongTables job n ts → ⊥)
seven_short job n ts = short_by job n ts (planned job n ts).answer (planned job n ts).tables (planned_promised job n ts) (known job n ts)

-- ---- what is told of an accepted job

pub cost_within : (job : Job) (i : ℕ) (r : List ℕ) → Lawful job i r → cost (job.goal_of i) r ≤ job.horizon
cost_within job i r law = (cost_least (job.goal_of i) job.horizon r law.long law.ends).within

module _ (job : Job) (n : ℕ) (accepted : judge_with (wrong_capacity n) job ≡ Ok tt) where
  records_small : (r : ℕ) → r ≤ n → r ≤ 1024
  records_small r l = omega (arith, ((accepted_exactly job n).0 accepted).1.most)

  -- at most 8 carriers, each with a cost of at most H
  total_small : (rs : Routes) → Family job rs → total job rs < 1000
  unfolding total
  total_small rs family =
      let facts = accepted_facts (wrong_capacity n) job accepted in
      let costs : total job rs ≤ job.count * 63 =
      sum_at_most job.count 63 (λ i. cost (job.goal_of i) (route_of rs i))
      (λ i l. omega (arith, cost_within job i (route_of rs i) (family.lawful i l), facts.horizon_most)) in
      omega (arith, facts.count_most)

abbrev SmallVerdict : Verdict → Type 0
SmallVerdict v = Small (verdict_told v)

answer_small : (job : Job) (n : ℕ) (ts : Tables) (answer : Answer) (after : Tables) → Promised job n ts answer after → Known job n ts answer → Small (answer_told answer)
unfolding Promised Known
answer_small job n ts (Ok plan) after (rs, least, written, few, need) k =
    counted_small 0 plan.sum plan.records (omega arith) (omega (arith, least.told, total_small job n k rs least.plan.family)) (records_small job n k plan.records few)
answer_small job n ts (Err (OfJob r)) after p k = subst SmallVerdict k.0 (judged_small job n)
answer_small job n ts (Err (Short t l)) after p k = short_small t l (omega (arith, short_in job n ts t p.2)) (rw p.3 (needed_small job n k t))
answer_small job n ts (Err (NoPlan r)) after p k = counted_small 8 0 r (omega arith) (omega arith) (records_small job n k r p.1)
answer_small job n ts (Err (Full r)) after p k = counted_small 9 0 r (omega arith) (omega arith) (records_small job n k r (omega (arith, p.0)))

pub told_small : (job : Job) (n : ℕ) (ts : Tables) → Small (answer_told (planned job n ts).answer)
told_small job n ts = answer_small job n ts (planned job n ts).answer (planned job n ts).tables (planned_promised job n ts) (known job n ts)

-- ---- answer 0

pub record Found (job : Job) (n : ℕ) (ts : Tables) (answer : Answer) (after : Tables) : Type 0 where
  pub routes : Routes
  pub sum : ℕ
  pub records : ℕ
  pub told : answer ≡ Ok (record { sum = sum; records = records })
  pub least : LeastPlan job routes sum
  pub written : after.output ≡ plan_written job routes ts.output
  pub made : records ≤ n
  pub accepted : judge_with (wrong_capacity n) job ≡ Ok tt

found : (job : Job) (n : ℕ) (ts : Tables) (answer : Answer) (after : Tables) → Promised job n ts answer after → Known job n ts answer → (answer_told answer).number ≡ 0 → Found job n ts answer after
unfolding Promised Known
found job n ts (Ok plan) after (rs, least, written, few, need) k is =
    record { routes = rs; sum = plan.sum; records = plan.records; told = refl; least = least; written = written; made = few; accepted = k }
found job n ts (Err (OfJob r)) after p k is = absurd (refusing_alone (refusal_told r).number 0 k.1 (inl refl) is)
found job n ts (Err (Short t l)) after p k is = absurd (omega arith)
found job n ts (Err (NoPlan r)) after p k is = absurd (omega arith)
found job n ts (Err (Full r)) after p k is = absurd (omega arith)

pub zero_found : (job : Job) (n : ℕ) (ts : Tables) → (answer_told (planned job n ts).answer).number ≡ 0 → Found job n ts (planned job n ts).answer (planned job n ts).tables
zero_found job n ts = found job n ts (planned job n ts).answer (planned job n ts).tables (planned_promised job n ts) (known job n ts)
