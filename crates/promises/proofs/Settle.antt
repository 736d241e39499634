-- The lines about a planner, and about the two checks, leave no choice. A job that is not right, and tables that are too short, are refused with what the
-- definitions give and nothing changes. Otherwise the tree's need leaves one number, one record count and one plan, the least sum one
-- sum, and all else is named. Assumes nothing.
use Prim.Native.Nat.{ℕ, ◌≤◌, ◌<◌}
use native.Mathlib.Omega.{arith}
use native.Mathlib.Decide.{dec_le}
use mathlib.Core.Path.{◌≡◌, refl, sym, ap, ◌∙◌}
use mathlib.Core.List.{List}
use mathlib.Core.Logic.{◌⊎◌, inl, inr}
use mathlib.Core.Option.{Option, none, some}
use lib.ListN.{length}
use Rattle.lists.proofs.Tests.{not_both}
use Rattle.job.specs.Job.{Job, plan_length, plan_cell, wrong_capacity}
use Rattle.job.specs.Due.{RightJob, RightCapacity}
use Rattle.job.specs.Told.{bare, too_short, refusal}
use Rattle.job.specs.Verdict.{judge_with, judge}
use Rattle.job.specs.declared.Fault.{Fault}
use Rattle.job.specs.declared.Told.{Told}
use Rattle.std.specs.Prelude.{Ok, Some}
use Rattle.job.proofs.Due.{accepted_exactly, checks_accept_exactly}
use Rattle.job.proofs.Refused.{accepts_or_not}
use Rattle.routes.specs.Check.{route_told}
use Rattle.clashes.specs.Check.{plan_travel, clash_told}
use Rattle.clashes.proofs.First.{right_choice_unique}
use Rattle.checks.specs.Demand.{LawfulRoutes}
use Rattle.checks.specs.First.{NoneWrong, FirstWrongPlace}
use Rattle.tree.specs.Tree.{Node}
use Rattle.tree.proofs.Promises.{need_one}
use Rattle.tables.specs.Tables.{Tables, needed_length, first_short}
use Rattle.tables.proofs.LongTables.{LengthsFact, lengths_fact, short_not_long, short_one}
use Rattle.promises.specs.Promises.{Planner, Check, Runs, RefusesFirst, ShortIsSeven, Left, TablesLeft, ZeroIsLeast, ByNeed, NineByNeed, ChecksRefuseFirst, ShortPlanIsSeven, FirstWrongTold, ChosenTold}
use Rattle.promises.specs.Ours.{OurPlanner, OurRoutes, OurMeetings, LinesSettle, CheckLinesSettle}
use Rattle.promises.proofs.Checks.{checks_refuse_first, short_plan_is_seven, first_wrong_told, chosen_told}
use Rattle.promises.proofs.Kept.{refuses_first, short_is_seven, tables_left, zero_is_least, nine_by_need}

-- ---- equal by their entries

told_same : (a b : Told) → a.number ≡ b.number → a.sum ≡ b.sum → a.records ≡ b.records → a.carrier ≡ b.carrier → a.other ≡ b.other → a.table ≡ b.table → a.needed ≡ b.needed → a ≡ b
told_same a b number sum records carrier other table needed =
    let e : ◌≡◌ {A = Told}
    (record { number = a.number; sum = a.sum; records = a.records; carrier = a.carrier; other = a.other; table = a.table; needed = a.needed })
    (record { number = b.number; sum = b.sum; records = b.records; carrier = b.carrier; other = b.other; table = b.table; needed = b.needed }) = cc in
    e

tables_same : (a b : Tables) → a.columns ≡ b.columns → a.plans ≡ b.plans → a.layers ≡ b.layers → a.output ≡ b.output → a ≡ b
tables_same a b columns plans layers output =
    let e : ◌≡◌ {A = Tables}
    (record { columns = a.columns; plans = a.plans; layers = a.layers; output = a.output })
    (record { columns = b.columns; plans = b.plans; layers = b.layers; output = b.output }) = cc in
    e

-- the output is as it was but for 0
kept : (job : Job) (n : ℕ) (before : Tables) (t : Told) (ts : Tables) → Left job n before t ts → (t.number ≡ 0 → ⊥) → ts.output ≡ before.output
kept job n before t ts left other = go left.output
  where
    go : (t.number ≡ 0) ⊎ (ts.output ≡ before.output) → ts.output ≡ before.output
    go (inl e) = absurd (other e)
    go (inr e) = e

-- ---- the tree's need leaves one number and one record count

module _ (job : Job) (n : ℕ) (before : Tables) (need : ℕ) (end : Option Node) (told told' : Told) (after after' : Tables)
    (b : ByNeed job n before need end told after) (b' : ByNeed job n before need end told' after') where
  ends_same : (o : Option Node) → end ≡ o → need ≤ n → told.number ≡ told'.number
  ends_same none e l = b.none_left l e ∙ sym (b'.none_left l e)
  ends_same (some node) e l = (b.plan l node e).0 ∙ sym (b'.plan l node e).0

  pub needs_same : (told.number ≡ told'.number) × (told.records ≡ told'.records)
  needs_same = go (dec_le need n)
    where
      go : Dec (need ≤ n) → (told.number ≡ told'.number) × (told.records ≡ told'.records)
      go (yes l) = (ends_same end refl l, b.from l ∙ sym (b'.from l))
      go (no l) =
          let k : n < need = omega (arith, l) in
          let (x, y) = b.under k in
          let (x', y') = b'.under k in
          (x ∙ sym x', y ∙ sym y')

  -- and one output, which is as it was but for 0
  module _ (l : Left job n before told after) (l' : Left job n before told' after') where
    both_kept : (k : ℕ) → 0 < k → told.number ≡ k → told'.number ≡ k → after.output ≡ after'.output
    both_kept k more e e' = kept job n before told after l (λ z. omega arith) ∙ sym (kept job n before told' after' l' (λ z. omega arith))

    end-output : (o : Option Node) → end ≡ o → need ≤ n → after.output ≡ after'.output
    end-output none e m = both_kept 8 (omega arith) (b.none_left m e) (b'.none_left m e)
    end-output (some node) e m = (b.plan m node e).1 ∙ sym (b'.plan m node e).1

    output_same : after.output ≡ after'.output
    output_same = go (dec_le need n)
      where
        go : Dec (need ≤ n) → after.output ≡ after'.output
        go (yes m) = end-output end refl m
        go (no m) = let k : n < need = omega (arith, m) in both_kept 9 (omega arith) (b.under k).0 (b'.under k).0

-- ---- the least sum is one

module _ (gives : Planner) (first : RefusesFirst gives) (short : ShortIsSeven gives) (left : TablesLeft gives) (least : ZeroIsLeast gives) (need : NineByNeed gives)
    (job : Job) (n : ℕ) (before : Tables) (told told' : Told) (after after' : Tables) (p : gives job n before told after) (p' : OurPlanner job n before told' after') where
  zero_sum : told.number ≡ 0 → told'.number ≡ 0 → told.sum ≡ told'.sum
  unfolding ZeroIsLeast
  zero_sum z z' =
      let (rs, a) = least job n before told after p z in
      let (rs', a') = zero_is_least job n before told' after' p' z' in
      let one : told.sum ≤ told'.sum = rw a'.sum (a.least rs' a'.plan) in
      let other : told'.sum ≤ told.sum = rw a.sum (a'.least rs a.plan) in
      omega (arith, one, other)

  same_sum : (l : Left job n before told after) (l' : Left job n before told' after') → told.number ≡ told'.number → told.sum ≡ told'.sum
  same_sum l l' e = go l.untold.4 l'.untold.4
    where
      go : (told.number ≡ 0) ⊎ (told.sum ≡ 0) → (told'.number ≡ 0) ⊎ (told'.sum ≡ 0) → told.sum ≡ told'.sum
      go (inl z) x = zero_sum z (sym e ∙ z)
      go (inr z) (inl x) = zero_sum (e ∙ x) x
      go (inr z) (inr x) = z ∙ sym x

  runs_same : Runs job n before → (told ≡ told') × (after ≡ after')
  unfolding TablesLeft NineByNeed
  runs_same runs =
      let l = left job n before told after p runs in
      let l' = tables_left job n before told' after' p' runs in
      let (k, end, is, by) = need job in
      let (k', end', is', by') = nine_by_need job in
      let (same, same_end) = need_one job k' k end' end is' is in
      let b = by n before told after p runs in
      let b' : ByNeed job n before k end told' after' = rw (same, same_end) at (by' n before told' after' p' runs) in
      let (number, records) = needs_same job n before k end told told' after after' b b' in (
        told_same told told' number (same_sum l l' number) records (l.untold.0 ∙ sym l'.untold.0) (l.untold.1 ∙ sym l'.untold.1) (l.untold.2 ∙ sym l'.untold.2) (l.untold.3 ∙ sym l'.untold.3),
        tables_same after after' (l.columns ∙ sym l'.columns) (l.plans ∙ sym l'.plans) (l.layers ∙ sym l'.layers) (output_same job n before k end told told' after after' b b' l l'),
      )

  long_same : RightJob job → RightCapacity n → (told ≡ told') × (after ≡ after')
  unfolding ShortIsSeven LengthsFact
  long_same right capacity = go (first_short job n before) (lengths_fact job n before)
    where
      go : (o : Option ℕ) → LengthsFact job n before o → (told ≡ told') × (after ≡ after')
      go none long = runs_same (record { right = right; capacity = capacity; long = long })
      go (some u) f =
          let (t, first, e, x) = short job n before told after p right capacity (short_not_long job n before u f) in
          let (t', first', e', x') = short_is_seven job n before told' after' p' right capacity (short_not_long job n before u f) in
          let same : t ≡ t' = short_one job n before t t' first first' in
          (e ∙ ap (λ (k : ℕ). too_short k (needed_length job n k)) same ∙ sym e', x ∙ sym x')

  refused_same : (judge_with (wrong_capacity n) job ≡ Ok tt → ⊥) → (told ≡ told') × (after ≡ after')
  unfolding RefusesFirst
  refused_same refused =
      let wrong : RightJob job × RightCapacity n → ⊥ = λ r. refused ((accepted_exactly job n).1 r) in
      let (due, t, x) = first job n before told after p wrong in
      let (due', t', x') = refuses_first job n before told' after' p' wrong in
      (t ∙ sym t', x ∙ sym x')

  all_same : (judge_with (wrong_capacity n) job ≡ Ok tt) ⊎ (judge_with (wrong_capacity n) job ≡ Ok tt → ⊥) → (told ≡ told') × (after ≡ after')
  all_same (inl e) = let (right, capacity) = (accepted_exactly job n).0 e in long_same right capacity
  all_same (inr r) = refused_same r

pub lines_settle : LinesSettle
unfolding LinesSettle
lines_settle gives first short left least need job n before told told' after after' p p' =
    all_same gives first short left least need job n before told told' after after' p p' (accepts_or_not (judge_with (wrong_capacity n) job))

-- ---- the checks

-- the first wrong place is one
first_one : (job : Job) (plan : List ℕ) (i t i' t' : ℕ) → FirstWrongPlace job (plan_cell job plan) i t → FirstWrongPlace job (plan_cell job plan) i' t' → (i ≡ i') × (t ≡ t')
first_one job plan i t i' t' f f' =
    let (a, b) = f.first i' t' f'.carrier f'.step f'.wrong in
    let (a', b') = f'.first i t f.carrier f.step f.wrong in
    let e : i ≡ i' = omega (arith, a, a') in
    (e, omega (arith, b e, b' (sym e)))

module _ (job : Job) (plan : List ℕ) where
  abbrev RouteFound : Fault → Type 0
  RouteFound r = (LawfulRoutes job plan × NoneWrong job (plan_cell job plan) × (r ≡ refusal (bare 0))) ⊎ ((i t : ℕ) × FirstWrongPlace job (plan_cell job plan) i t × (r ≡ route_told (Ok (Some (record { carrier = i; step = t })))))

  found_one : (r r' : Fault) → RouteFound r → RouteFound r' → r ≡ r'
  unfolding NoneWrong
  found_one r r' (inl (law, right, e)) (inl (law', right', e')) = e ∙ sym e'
  found_one r r' (inl (law, right, e)) (inr (i, t, f, e')) = absurd (not_both f.wrong (right i t f.carrier f.step))
  found_one r r' (inr (i, t, f, e)) (inl (law, right, e')) = absurd (not_both f.wrong (right i t f.carrier f.step))
  found_one r r' (inr (i, t, f, e)) (inr (i', t', f', e')) =
      let (x, y) = first_one job plan i t i' t' f f' in
      e ∙ ap (λ (k : ℕ). route_told (Ok (Some (record { carrier = k; step = t })))) x ∙ ap (λ (k : ℕ). route_told (Ok (Some (record { carrier = i'; step = k })))) y ∙ sym e'

module _ (routes meetings : Check) (first : ChecksRefuseFirst routes meetings) (short : ShortPlanIsSeven routes meetings) (wrong : FirstWrongTold routes) (chosen : ChosenTold meetings)
    (job : Job) (plan : List ℕ) (r r' m m' : Fault) (p : routes job plan r) (q : meetings job plan m) (p' : OurRoutes job plan r') (q' : OurMeetings job plan m') where
  whole_same : RightJob job → plan_length job ≤ length plan → (r ≡ r') × (m ≡ m')
  unfolding FirstWrongTold ChosenTold
  whole_same right long =
      let (c, choice, e) = chosen job plan m q right long in
      let (c', choice', e') = chosen_told job plan m' q' right long in
      let same : c ≡ c' = right_choice_unique (plan_travel job plan) job.count c c' choice choice' in
      (found_one job plan r r' (wrong job plan r p right long) (first_wrong_told job plan r' p' right long), e ∙ ap clash_told same ∙ sym e')

  right_same : RightJob job → Dec (plan_length job ≤ length plan) → (r ≡ r') × (m ≡ m')
  unfolding ShortPlanIsSeven
  right_same right (yes long) = whole_same right long
  right_same right (no less) =
      let cut : length plan < plan_length job = omega (arith, less) in
      let (x, y) = short job plan r m p q right cut in
      let (x', y') = short_plan_is_seven job plan r' m' p' q' right cut in
      (x ∙ sym x', y ∙ sym y')

  checks_same : (judge job ≡ Ok tt) ⊎ (judge job ≡ Ok tt → ⊥) → (r ≡ r') × (m ≡ m')
  unfolding ChecksRefuseFirst
  checks_same (inl e) = right_same ((checks_accept_exactly job).0 e) (dec_le (plan_length job) (length plan))
  checks_same (inr n) =
      let refused : RightJob job → ⊥ = λ right. n ((checks_accept_exactly job).1 right) in
      let (due, x, y) = first job plan r m p q refused in
      let (due', x', y') = checks_refuse_first job plan r' m' p' q' refused in
      (x ∙ sym x', y ∙ sym y')

pub check_lines_settle : CheckLinesSettle
unfolding CheckLinesSettle
check_lines_settle routes meetings first short wrong chosen job plan r r' m m' p q p' q' =
    checks_same routes meetings first short wrong chosen job plan r r' m m' p q p' q' (accepts_or_not (judge job))
