-- Each promise of specs/Promises.antt about a planner, kept by ours: by its contract alone, which equates answer and tables with document
-- 01's definitions and beside them states least, none and need. The promises about the checks are kept in Checks.antt. Assumes nothing.
use Prim.Native.Nat.{ℕ, ◌≤◌, ◌<◌}
use native.Mathlib.Omega.{arith}
use native.Mathlib.Decide.{dec_le}
use mathlib.Core.Path.{◌≡◌, refl, sym, ap, subst, ◌∙◌}
use mathlib.Core.Logic.{◌⊎◌, inl, inr}
use mathlib.Core.Option.{Option, none, some, some-ne-none}
use Rattle.job.specs.Job.{Job, wrong_capacity}
use Rattle.job.specs.Due.{RightJob, RightCapacity, Due}
use Rattle.std.specs.Prelude.{Ok, Err}
use Rattle.job.specs.Verdict.{refusal_told, verdict_told, judge_with}
use Rattle.job.specs.declared.Told.{Told}
use Rattle.job.proofs.Due.{accepted_exactly as exactly, checks_accept_exactly as checks_exactly, planner_due}
use Rattle.job.proofs.Refused.{refused_by, refusing_alone}
use Rattle.checks.specs.Demand.{Passes}
use Rattle.search.specs.Search.{Outcome, done, full}
use Rattle.tree.specs.Plan.{Routes}
use Rattle.tree.specs.Tree.{Node, tree}
use Rattle.tree.specs.Promises.{NoneExists}
use Rattle.tree.proofs.Promises.{tree_need}
use Rattle.tables.specs.Tables.{Tables, needed_length, first_short, FirstShort, LongTables, worked_on, plan_written, with_plan}
use Rattle.tables.proofs.LongTables.{LengthsFact, lengths_fact, long_exact}
use Rattle.planner.specs.Answer.{Answer, answer_told, Result, searched, if_long, enough, planned}
use Rattle.planner.specs.Promises.{Promised}
use Rattle.planner.specs.declared.answer.Denial.TheVariants.{Job as OfJob, Short, NoPlan, Full}
use Rattle.planner.proofs.Checked.{planned_accepted, planned_refused}
use Rattle.planner.proofs.Known.{Known, known, numbered}
use Rattle.lines.specs.Program.{program_tables, program_text}
use Rattle.lines.proofs.Whole.{plan_printed as printed}
use Rattle.promises.specs.Promises.{Runs, AcceptedExactly, ChecksAcceptExactly, AlwaysNumbered, RefusesFirst, ShortIsSeven, Left, TablesLeft, NothingElse, PlanGiven, ZeroIsLeast, EightIsNone, ByNeed, NineByNeed, MoreAltersNothing, SafeGiven, LeastOfTheSafe, OutputPasses, PlanPrinted}
use Rattle.promises.specs.Ours.{OurPlanner, OurRoutes, OurMeetings}
use Rattle.promises.proofs.Checks.{both_pass}
use Rattle.promises.proofs.Passing.{written_passes}

-- ---- what the definitions give

-- a result of the definitions, as it is seen
record Seen (result : Result) (told : Told) (after : Tables) : Type 0 where
  tells : told ≡ answer_told result.answer
  leaves : after ≡ result.tables

module _ (job : Job) (n : ℕ) (before : Tables) where
  planned_right : RightJob job → RightCapacity n → planned job n before ≡ enough job n before
  planned_right right capacity = planned_accepted job n before ((exactly job n).1 (right, capacity))

  -- a table that is too short is told with the length it needed
  enough_short : (LongTables job n before → ⊥) → (t : ℕ) × FirstShort job n before t × (enough job n before ≡ record { answer = Err (Short t (needed_length job n t)); tables = before })
  unfolding enough if_long LengthsFact
  enough_short short = go (first_short job n before) (lengths_fact job n before)
    where
      go : (o : Option ℕ) → LengthsFact job n before o
          → (t : ℕ) × FirstShort job n before t × (if_long job n before o (searched job n before (tree job n)) ≡ record { answer = Err (Short t (needed_length job n t)); tables = before })
      go none long = absurd (short long)
      go (some t) f = (t, f, refl)

  enough_long : LongTables job n before → enough job n before ≡ searched job n before (tree job n)
  unfolding enough if_long
  enough_long l = let e : first_short job n before ≡ none = (long_exact job n before).1 l in rw e refl

  module _ (told : Told) (after : Tables) (p : OurPlanner job n before told after) where
    ours : Seen (planned job n before) told after
    ours = record { tells = p.is ∙ ap answer_told p.planned.told; leaves = p.planned.tables }

    -- where the definitions give a result, ours tells and leaves it
    seen : (result : Result) → planned job n before ≡ result → Seen result told after
    seen result e = subst (λ x. Seen x told after) e ours

    -- a job that runs is searched
    seen_end : (o : Outcome Node) → Runs job n before → tree job n ≡ o → Seen (searched job n before o) told after
    seen_end o runs e = seen (searched job n before o) (planned_right runs.right runs.capacity ∙ enough_long runs.long ∙ ap (searched job n before) e)

    -- what its number tells of the job
    known_of : Known job n before p.answer
    known_of = subst (Known job n before) (sym p.planned.told) (known job n before)

-- ---- what is accepted

pub accepted_exactly : AcceptedExactly
unfolding AcceptedExactly
accepted_exactly = exactly

pub checks_accept_exactly : ChecksAcceptExactly
unfolding ChecksAcceptExactly
checks_accept_exactly = checks_exactly

-- ---- 1

pub always_numbered : AlwaysNumbered OurPlanner
unfolding AlwaysNumbered
always_numbered job n before told after p = rw p.is (numbered job n before p.answer (known_of job n before told after p))

pub refuses_first : RefusesFirst OurPlanner
unfolding RefusesFirst
refuses_first job n before told after p wrong =
    let (refusal, is) = refused_by (judge_with (wrong_capacity n) job) (λ e. wrong ((exactly job n).0 e)) in
    let s = seen job n before told after p (record { answer = Err (OfJob refusal); tables = before }) (planned_refused job n before refusal is) in
    let tells : told ≡ verdict_told (judge_with (wrong_capacity n) job) = s.tells ∙ sym (ap verdict_told is) in
    (subst (Due job (RightCapacity n)) (sym tells) (planner_due job n), tells, s.leaves)

pub short_is_seven : ShortIsSeven OurPlanner
unfolding ShortIsSeven
short_is_seven job n before told after p right capacity short =
    let (t, first, e) = enough_short job n before short in
    let s = seen job n before told after p (record { answer = Err (Short t (needed_length job n t)); tables = before }) (planned_right job n before right capacity ∙ e) in
    (t, first, s.tells, s.leaves)

left_by : (job : Job) (n : ℕ) (before : Tables) (o : Outcome Node) → Left job n before (answer_told (searched job n before o).answer) (searched job n before o).tables
unfolding searched with_plan worked_on
left_by job n before (done (some x) k) = record { number = inl refl; untold = (refl, refl, refl, refl, inl refl); columns = refl; plans = refl; layers = refl; output = inl refl }
left_by job n before (done none k) = record { number = inr (inl refl); untold = (refl, refl, refl, refl, inr refl); columns = refl; plans = refl; layers = refl; output = inr refl }
left_by job n before (full k) = record { number = inr (inr refl); untold = (refl, refl, refl, refl, inr refl); columns = refl; plans = refl; layers = refl; output = inr refl }

pub tables_left : TablesLeft OurPlanner
unfolding TablesLeft
tables_left job n before told after p runs =
    let s = seen_end job n before told after p (tree job n) runs refl in
    rw (s.tells, s.leaves) (left_by job n before (tree job n))

pub nothing_else : NothingElse OurPlanner
unfolding NothingElse
nothing_else job n before told told' after after' p p' =
    let s = ours job n before told after p in
    let s' = ours job n before told' after' p' in
    (s.tells ∙ sym s'.tells, s.leaves ∙ sym s'.leaves)

-- ---- 2

module _ (job : Job) (n : ℕ) (before : Tables) (told : Told) (after : Tables) (p : OurPlanner job n before told after) where
  -- the number is told by the answer
  number_is : (k : ℕ) → told.number ≡ k → (answer_told p.answer).number ≡ k
  number_is k e = ap (λ (t : Told). t.number) (sym p.is) ∙ e

  planned_zero : (r : Answer) → Known job n before r → Promised job n before r after → (answer_told r).number ≡ 0 → (rs : Routes) × PlanGiven job before (answer_told r) after rs × SafeGiven job before (answer_told r) after rs
  unfolding Known Promised
  planned_zero (Ok p) f (rs, least, written, few, need) e = (
    rs,
    record { written = written; plan = least.plan; sum = least.told; least = least.least },
    record { written = written; safe = least.safe; sum = least.told; least = least.least_safe },
  )
  planned_zero (Err (OfJob v)) f q e = absurd (refusing_alone (refusal_told v).number 0 f.1 (inl refl) e)
  planned_zero (Err (Short t l)) f q e = absurd (omega arith)
  planned_zero (Err (NoPlan k)) f q e = absurd (omega arith)
  planned_zero (Err (Full k)) f q e = absurd (omega arith)

  zero_given : told.number ≡ 0 → (rs : Routes) × PlanGiven job before told after rs × SafeGiven job before told after rs
  zero_given e = rw p.is (planned_zero p.answer (known_of job n before told after p) p.planned.promised (number_is 0 e))

  -- and only for a right job
  zero_right : (r : Answer) → Known job n before r → (answer_told r).number ≡ 0 → RightJob job
  unfolding Known
  zero_right (Ok p) f e = ((exactly job n).0 f).0
  zero_right (Err (OfJob v)) f e = absurd (refusing_alone (refusal_told v).number 0 f.1 (inl refl) e)
  zero_right (Err (Short t l)) f e = absurd (omega arith)
  zero_right (Err (NoPlan k)) f e = absurd (omega arith)
  zero_right (Err (Full k)) f e = absurd (omega arith)

  right_given : told.number ≡ 0 → RightJob job
  right_given e = zero_right p.answer (known_of job n before told after p) (number_is 0 e)

  none_given : (r : Answer) → Known job n before r → Promised job n before r after → (answer_told r).number ≡ 8 → NoneExists job
  unfolding Known Promised
  none_given (Ok p) f q e = absurd (omega arith)
  none_given (Err (OfJob v)) f q e = absurd (refusing_alone (refusal_told v).number 8 f.1 (inr (omega arith, omega arith)) e)
  none_given (Err (Short t l)) f q e = absurd (omega arith)
  none_given (Err (NoPlan k)) f q e = q.0
  none_given (Err (Full k)) f q e = absurd (omega arith)

pub zero_is_least : ZeroIsLeast OurPlanner
unfolding ZeroIsLeast
zero_is_least job n before told after p e = let (rs, plan, safe) = zero_given job n before told after p e in (rs, plan)

pub eight_is_none : EightIsNone OurPlanner
unfolding EightIsNone NoneExists
eight_is_none job n before told after p e =
    none_given job n before told after p p.answer (known_of job n before told after p) p.planned.promised (number_is job n before told after p 8 e)

-- ---- need

module _ (job : Job) (n : ℕ) (before : Tables) where
  -- the tree ended with so many records
  ended : (end : Option Node) (need : ℕ) → need ≤ n → ByNeed job n before need end (answer_told (searched job n before (done end need)).answer) (searched job n before (done end need)).tables
  unfolding searched with_plan worked_on
  ended (some x) need l =
      record {
        under = λ h. absurd (omega arith);
        from = λ h. refl;
        plan = λ h node e. let q : x ≡ node = cc in (refl, ap (λ (y : Node). plan_written job y.routes before.output) q);
        none_left = λ h e. absurd (some-ne-none x e);
      }
  ended none need l =
      record {
        under = λ h. absurd (omega arith);
        from = λ h. refl;
        plan = λ h node e. absurd (some-ne-none node (sym e));
        none_left = λ h e. refl;
      }

  -- or it was short of them
  filled : (end : Option Node) (need : ℕ) → n < need → ByNeed job n before need end (answer_told (searched job n before (full n)).answer) (searched job n before (full n)).tables
  unfolding searched
  filled end need l =
      record { under = λ h. (refl, refl); from = λ h. absurd (omega arith); plan = λ h node e. absurd (omega arith); none_left = λ h e. absurd (omega arith) }

  by_need : (told : Told) (after : Tables) → OurPlanner job n before told after → Runs job n before → ByNeed job n before (tree_need job).need (tree_need job).end told after
  by_need told after p runs = go (dec_le (tree_need job).need n)
    where
      go : Dec ((tree_need job).need ≤ n) → ByNeed job n before (tree_need job).need (tree_need job).end told after
      go (yes l) =
          let s = seen_end job n before told after p (done (tree_need job).end (tree_need job).need) runs ((tree_need job).is.enough n runs.capacity.least l) in
          rw (s.tells, s.leaves) (ended (tree_need job).end (tree_need job).need l)
      go (no l) =
          let k : n < (tree_need job).need = omega (arith, l) in
          let s = seen_end job n before told after p (full n) runs ((tree_need job).is.short n runs.capacity.least k) in
          rw (s.tells, s.leaves) (filled (tree_need job).end (tree_need job).need k)

pub nine_by_need : NineByNeed OurPlanner
unfolding NineByNeed
nine_by_need job = ((tree_need job).need, (tree_need job).end, (tree_need job).is, λ n before told after p runs. by_need job n before told after p runs)

module _ (job : Job) (n n' : ℕ) (before before' : Tables) (need : ℕ) where
  same_answer : (end : Option Node) → (searched job n' before' (done end need)).answer ≡ (searched job n before (done end need)).answer
  unfolding searched
  same_answer (some x) = refl
  same_answer none = refl

  same_routes : (end : Option Node) → (answer_told (searched job n before (done end need)).answer).number ≡ 0 → (rs : Routes) × ((searched job n before (done end need)).tables.output ≡ plan_written job rs before.output) × ((searched job n' before' (done end need)).tables.output ≡ plan_written job rs before'.output)
  unfolding searched with_plan worked_on
  same_routes (some x) e = (x.routes, refl, refl)
  same_routes none e = absurd (omega arith)

not_nine : (told : Told) → (told.number ≡ 0) ⊎ (told.number ≡ 8) → told.number ≡ 9 → ⊥
not_nine told (inl e) nine = omega arith
not_nine told (inr e) nine = omega arith

pub more_alters_nothing : MoreAltersNothing OurPlanner
unfolding MoreAltersNothing
more_alters_nothing job n n' before before' told told' after after' p p' runs runs' more given = go (dec_le (tree_need job).need n)
  where
    go : Dec ((tree_need job).need ≤ n) → (told' ≡ told) × (told.number ≡ 0 → (rs : Routes) × (after.output ≡ plan_written job rs before.output) × (after'.output ≡ plan_written job rs before'.output))
    go (yes l) =
        let s = seen_end job n before told after p (done (tree_need job).end (tree_need job).need) runs ((tree_need job).is.enough n runs.capacity.least l) in
        let s' = seen_end job n' before' told' after' p' (done (tree_need job).end (tree_need job).need) runs' ((tree_need job).is.enough n' runs'.capacity.least (omega arith)) in (
          s'.tells ∙ ap answer_told (same_answer job n n' before before' (tree_need job).need (tree_need job).end) ∙ sym s.tells,
          λ z. rw (s.leaves, s'.leaves) (same_routes job n n' before before' (tree_need job).need (tree_need job).end (ap (λ (t : Told). t.number) (sym s.tells) ∙ z)),
        )
    go (no l) = absurd (not_nine told given ((by_need job n before told after p runs).under (omega (arith, l))).0)

-- ---- 3

pub least_of_the_safe : LeastOfTheSafe OurPlanner
unfolding LeastOfTheSafe
least_of_the_safe job n before told after p e = let (rs, plan, safe) = zero_given job n before told after p e in (rs, safe)

pub output_passes : OutputPasses OurPlanner OurRoutes OurMeetings
unfolding OutputPasses ZeroIsLeast
output_passes job n before told after r m p e routes meetings =
    let (rs, given) = zero_is_least job n before told after p e in
    let passes : Passes job after.output = rw given.written (written_passes job rs given.plan before.output ((checks_exactly job).1 (right_given job n before told after p e))) in
    (both_pass job after.output r m routes meetings).1 passes

-- ---- the program

pub plan_printed : PlanPrinted
unfolding PlanPrinted program_text
plan_printed book = printed book 128 program_tables
