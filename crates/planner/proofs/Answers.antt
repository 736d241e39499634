-- The planner's answer by its checks: refused, a table too short, or what the search gives; and what checks 1 to 7 show.
-- Assumes nothing.
use Prim.Native.Nat.{ℕ, zero, suc, ◌+◌, ◌*◌, ◌≤◌, ◌<◌}
use native.Mathlib.Decide.{ℕ_discrete}
use native.Mathlib.Nat.{mul-le-mul}
use native.Mathlib.Omega.{arith}
use mathlib.Core.Path.{◌≡◌, refl, sym, ap, ◌∙◌}
use mathlib.Core.Bool.{Bool}
use mathlib.Core.List.{List}
use mathlib.Core.Option.{Option, none, some}
use lib.ListN.{length, get_or}
use Rattle.hall.proofs.HallCode.{area_small, layers_small}
use Rattle.job.specs.Job.{Job, plan_length, wrong_capacity}
use Rattle.job.specs.Verdict.{Verdict, judge_with}
use Rattle.job.specs.declared.Refusal.{Refusal}
use Rattle.job.proofs.Accepted.{Facts, accepted_facts, plan_small}
use Rattle.job.proofs.Due.{open_exact, capacity_exact}
use Rattle.tree.specs.Tree.{tree}
use Rattle.tables.specs.Tables.{Tables, plans_length, layers_length, lent_length, needed_length, first_short, FirstShort, LongTables}
use Rattle.tables.proofs.LongTables.{LengthsFact, lengths_fact, short_not_long, long_exact, short_one}
use Rattle.children.specs.declared.Task.{Task}
use Rattle.std.specs.Prelude.{Ok, Err, Result as Either, OnOk, OnErr}
use Rattle.planner.specs.declared.answer.Denial.{Denial}
use Rattle.planner.specs.declared.answer.Denial.TheVariants.{Job as OfJob, Short}
use Rattle.planner.specs.Answer.{Answer, Result, searched, if_long, enough, planned}
use Rattle.planner.specs.Post.{Planned}
use Rattle.children.specs.Steps.{job_on, Ready}
use Rattle.planner.specs.Steps.{Limits, Roomy, RanFact, lengths_of}
use Rattle.planner.proofs.Checked.{planned_accepted, planned_refused}
use Rattle.planner.proofs.Promises.{planned_promised}

-- ---- the tests of answer 7

pub plans_small : (count h capacity : ℕ) → count ≤ 8 → h ≤ 63 → capacity ≤ 1024 → capacity * (count * (h + 1)) ≤ 524288
plans_small count h capacity l k m = mul-le-mul m (plan_small l k)

-- the length that 7 tells is at most that of the plans of 8 carriers with H 63 and N 1,024
pub needed_small : (job : Job) (n : ℕ) → judge_with (wrong_capacity n) job ≡ Ok tt → (t : ℕ) → needed_length job n t ≤ 524288
needed_small job n accepted = go
  where
    facts : Facts (wrong_capacity n) job
    facts = accepted_facts (wrong_capacity n) job accepted

    few : n ≤ 1024
    few = ((capacity_exact n).0 facts.capacity).most

    go : (t : ℕ) → needed_length job n t ≤ 524288
    go zero = omega (arith, few)
    go (suc zero) = plans_small job.count job.horizon n facts.count_most facts.horizon_most few
    go (suc (suc zero)) = omega (arith, layers_small facts.horizon_most (area_small facts.width_most facts.height_most))
    go (suc (suc (suc zero))) = omega (arith, plan_small facts.count_most facts.horizon_most)
    go (suc (suc (suc (suc t)))) = omega arith

-- what the code says of a table that is short, where those before it are long
module _ (job : Job) (capacity : ℕ) (ts : Tables) where
  found_short : (o : Option ℕ) (t l : ℕ) → LengthsFact job capacity ts o → FirstShort job capacity ts t → l ≡ needed_length job capacity t → Err (Short t l) ≡ lengths_of (needed_length job capacity) o
  unfolding LengthsFact lengths_of
  found_short none t l fact f e = absurd (short_not_long job capacity ts t f fact)
  found_short (some u) t l fact f e = let same : t ≡ u = short_one job capacity ts t u f fact in rw (e, same)

  lacking : (t l : ℕ) → FirstShort job capacity ts t → l ≡ needed_length job capacity t → Err (Short t l) ≡ lengths_of (needed_length job capacity) (first_short job capacity ts)
  lacking t l = found_short (first_short job capacity ts) t l (lengths_fact job capacity ts)

  -- a table more is long enough
  abbrev Before : ℕ → Type 0
  Before t = (s : ℕ) → s < t → needed_length job capacity s ≤ lent_length ts s

  none_before : Before 0
  none_before s l = absurd (omega arith)

  one_more : (t : ℕ) → Before t → needed_length job capacity t ≤ lent_length ts t → Before (suc t)
  one_more t before here s l = go (ℕ_discrete s t)
    where
      go : Dec (s ≡ t) → needed_length job capacity s ≤ lent_length ts s
      go (yes e) = rw e here
      go (no other) = before s (omega (arith, other))

  suffices : LongTables job capacity ts → Ok tt ≡ lengths_of (needed_length job capacity) (first_short job capacity ts)
  unfolding lengths_of
  suffices long = let e : first_short job capacity ts ≡ none = (long_exact job capacity ts).1 long in rw e

module _ (task : Task) (ts : Tables) where
  -- the tests in their order; `stretch` is the length of one plan, `planes` that of the layers
  abbrev verdict : Either (Unit {0}) Denial
  verdict = lengths_of (needed_length (job_on task) task.capacity) (first_short (job_on task) task.capacity ts)

  pub short_columns : length ts.columns < 8 * task.capacity → Err (Short 0 (8 * task.capacity)) ≡ verdict
  short_columns l = lacking (job_on task) task.capacity ts 0 (8 * task.capacity) (record { short = l; first = none_before (job_on task) task.capacity ts }) refl

  module _ (columns-room : 8 * task.capacity ≤ length ts.columns) (stretch : ℕ) (is : stretch ≡ task.job.team.count * (task.job.horizon + 1)) where
    one : (s : ℕ) → s < 1 → needed_length (job_on task) task.capacity s ≤ lent_length ts s
    one = one_more (job_on task) task.capacity ts 0 (none_before (job_on task) task.capacity ts) columns-room

    pub short_plans_lem : length ts.plans < task.capacity * stretch → Err (Short 1 (task.capacity * stretch)) ≡ verdict
    short_plans_lem l =
        let k : length ts.plans < plans_length (job_on task) task.capacity = rw is at l in
        let e : task.capacity * stretch ≡ plans_length (job_on task) task.capacity = rw is refl in
        lacking (job_on task) task.capacity ts 1 (task.capacity * stretch) (record { short = k; first = one }) e

    module _ (plans-room : task.capacity * stretch ≤ length ts.plans) where
      two : (s : ℕ) → s < 2 → needed_length (job_on task) task.capacity s ≤ lent_length ts s
      two = let room : plans_length (job_on task) task.capacity ≤ length ts.plans = rw is at plans-room in one_more (job_on task) task.capacity ts 1 one room

      module _ (planes : ℕ) (twice : planes ≡ layers_length (job_on task)) where
        pub short_layers : length ts.layers < planes → Err (Short 2 planes) ≡ verdict
        short_layers l = lacking (job_on task) task.capacity ts 2 planes (record { short = omega (arith, twice); first = two }) twice

        module _ (layers-room : planes ≤ length ts.layers) where
          layers_long : layers_length (job_on task) ≤ length ts.layers
          layers_long = omega (arith, twice)

          short_output : length ts.output < stretch → Err (Short 3 stretch) ≡ verdict
          short_output l =
              let k : length ts.output < plan_length (job_on task) = rw is at l in
              lacking (job_on task) task.capacity ts 3 stretch (record { short = k; first = one_more (job_on task) task.capacity ts 2 two layers_long }) is

          all_long : stretch ≤ length ts.output → Ok tt ≡ verdict
          all_long l =
              let plans : plans_length (job_on task) task.capacity ≤ length ts.plans = rw is at plans-room in
              let output : plan_length (job_on task) ≤ length ts.output = rw is at l in
              suffices (job_on task) task.capacity ts (record { columns = columns-room; plans = plans; layers = layers_long; output = output })

          -- what the last test says
          pub last_told : (r : Either (Unit {0}) Denial) → OnOk r (stretch ≤ length ts.output) → OnErr r ((length ts.output < stretch) × (r ≡ Err (Short 3 stretch))) → r ≡ verdict
          last_told (Ok u) long short = all_long long
          last_told (Err d) long short = short.1 ∙ short_output short.0

  -- no table is too short
  long_by : (o : Option ℕ) → Ok tt ≡ lengths_of (needed_length (job_on task) task.capacity) o → o ≡ none
  unfolding lengths_of
  long_by none e = refl
  long_by (some t) e = absurd (let z : ◌≡◌ {A = ℕ} 0 1 = cc e in omega arith)

  pub roomy : Ok tt ≡ lengths_of (needed_length (job_on task) task.capacity) (first_short (job_on task) task.capacity ts) → Roomy task ts.columns ts.plans ts.layers ts.output
  roomy e =
      let l = (long_exact (job_on task) task.capacity ts).0 (long_by (first_short (job_on task) task.capacity ts) e) in
      record { columns_room = l.columns; plans_room = l.plans; layers_room = l.layers; output_room = l.output }

-- ---- what checks 1 to 6 show

module _ (task : Task) (v : Verdict) (wrongN : Bool) (is : v ≡ judge_with wrongN (job_on task)) (of-n : wrongN ≡ wrong_capacity task.capacity) (yes-to : v ≡ Ok tt) where
  facts : Facts (wrong_capacity task.capacity) (job_on task)
  facts = accepted_facts (wrong_capacity task.capacity) (job_on task) (ap (λ (b : Bool). judge_with b (job_on task)) (sym of-n) ∙ sym is ∙ yes-to)

  pub limits : Limits task
  limits =
      let f = facts in
      record {
        width_most = f.width_most;
        height_most = f.height_most;
        horizon_most = f.horizon_most;
        count_most = f.count_most;
        capacity_most = ((capacity_exact task.capacity).0 f.capacity).most;
      }

  pub ready : (layers : List ℕ) → layers_length (job_on task) ≤ length layers → Ready task layers
  ready layers room =
      let f = facts in
      record {
        width_least = f.width_least;
        width_most = f.width_most;
        height_least = f.height_least;
        height_most = f.height_most;
        bytes_long = f.bytes_length;
        slips_most = f.slip_most;
        horizon_most = f.horizon_most;
        count_least = f.count_least;
        count_most = f.count_most;
        capacity_least = ((capacity_exact task.capacity).0 f.capacity).least;
        capacity_most = ((capacity_exact task.capacity).0 f.capacity).most;
        starts_inside = λ i l. ((open_exact (job_on task) (get_or task.job.team.starts i 0)).0 (f.start_open i l)).inside;
        goals_inside = λ i l. ((open_exact (job_on task) (get_or task.job.team.goals i 0)).0 (f.goal_open i l)).inside;
        layers_long = room;
      }

-- ---- the answer

module _ (job : Job) (capacity : ℕ) (ts : Tables) where
  settled : (answer : Answer) (after : Tables) → answer ≡ (planned job capacity ts).answer → after ≡ (planned job capacity ts).tables → Planned job capacity ts answer after
  settled answer after a b = record { told = a; tables = b; promised = rw (a, b) (planned_promised job capacity ts) }

  -- what the code found of the lengths is what the definition goes by
  too_short : (o : Option ℕ) (d : Denial) (rest : Result) → Err d ≡ lengths_of (needed_length job capacity) o → if_long job capacity ts o rest ≡ record { answer = Err d; tables = ts }
  unfolding lengths_of if_long
  too_short none d rest e = absurd (let z : ◌≡◌ {A = ℕ} 0 1 = cc e in omega arith)
  too_short (some u) d rest e = let same : d ≡ Short u (needed_length job capacity u) = cc e in rw same refl

  long_enough : (o : Option ℕ) (rest : Result) → Ok tt ≡ lengths_of (needed_length job capacity) o → if_long job capacity ts o rest ≡ rest
  unfolding lengths_of if_long
  long_enough none rest e = refl
  long_enough (some u) rest e = absurd (let z : ◌≡◌ {A = ℕ} 0 1 = cc e in omega arith)

  module _ (v : Verdict) (wrongN : Bool) (is : v ≡ judge_with wrongN job) (of-n : wrongN ≡ wrong_capacity capacity) where
    judged : judge_with (wrong_capacity capacity) job ≡ v
    judged = ap (λ (b : Bool). judge_with b job) (sym of-n) ∙ sym is

    pub planned_refusal : (r : Refusal) → v ≡ Err r → Planned job capacity ts (Err (OfJob r)) ts
    planned_refusal r k = let e = planned_refused job capacity ts r (judged ∙ k) in settled (Err (OfJob r)) ts (rw e refl) (rw e refl)

    module _ (yes-to : v ≡ Ok tt) where
      is_enough : planned job capacity ts ≡ enough job capacity ts
      is_enough = planned_accepted job capacity ts (judged ∙ yes-to)

      module _ (lengths : Either (Unit {0}) Denial) (found : lengths ≡ lengths_of (needed_length job capacity) (first_short job capacity ts)) where
        pub planned_short : (d : Denial) → lengths ≡ Err d → Planned job capacity ts (Err d) ts
        unfolding enough
        planned_short d e =
            let s = is_enough ∙ too_short (first_short job capacity ts) d (searched job capacity ts (tree job capacity)) (sym e ∙ found) in
            settled (Err d) ts (rw s refl) (rw s refl)

        pub planned_ran : lengths ≡ Ok tt → (answer : Answer) (after : Tables) → RanFact job capacity ts answer after → Planned job capacity ts answer after
        unfolding enough
        planned_ran e answer after f =
            let s = is_enough ∙ long_enough (first_short job capacity ts) (searched job capacity ts (tree job capacity)) (sym e ∙ found) in
            settled answer after (rw s f.told) (rw s f.left)
