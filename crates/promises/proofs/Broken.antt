-- Document 01's broken planners and checks, P1's wrong refusals and the planner that P2 mends: none keeps the promise that the document names for it. Each law
-- takes any planner, or any two checks, and that one line of specs/Promises.antt; nothing is known of how they work. What the line
-- says at a worked job is read off our own planner, which keeps it (proofs/Kept.antt) and whose answer there is known (`stars_hold`).
-- Assumes nothing.
use Prim.Native.Nat.{ℕ, ◌+◌, ◌*◌, ◌≤◌, ◌<◌}
use native.Mathlib.Omega.{arith}
use mathlib.Core.Path.{◌≡◌, refl, sym, ap, subst, ◌∙◌}
use mathlib.Core.List.{List, ◌∷◌, [], Memᴰ}
use mathlib.Core.Logic.{◌⊎◌, inl, inr}
use native.Mathlib.Decide.{dec_le}
use mathlib.Core.Option.{Option, none, some}
use lib.ListN.{length, get_or}
use Rattle.lists.specs.Lists.{range, greatest, sum_to, only, keep, any_of, first_of, each, Every, refuse_if}
use Rattle.lists.proofs.Every.{every_member}
use Rattle.lent.proofs.Keeping.{zeroed_zero}
use Rattle.hall.specs.Hall.{size, wrong_side, wrong_grid, wrong_byte, wrong_bytes, is_open}
use Rattle.hall.specs.Moves.{on_grid, cell_at, landing, reach_from, reach, may_follow}
use Rattle.job.specs.Job.{Job, plan_length, plan_cell, wrong_limits, wrong_capacity, wrong_count, wrong_carrier, first_wrong, share, pairs, first_shared}
use Rattle.job.specs.Due.{RightJob, RightCapacity, NoneShare, Due}
use Rattle.job.specs.Told.{counted, bare, too_short}
use Rattle.job.specs.Verdict.{carrier_verdict, shared_verdict, judge_with, judge, if_accepted}
use Rattle.job.specs.declared.Fault.{Fault}
use Rattle.job.specs.declared.Told.{Told}
use Rattle.std.specs.Prelude.{Ok}
use Rattle.routes.specs.Route.{step_cost, cost}
use Rattle.routes.specs.Bars.{bars_for, bars_cell, bars_way, may_stand, may_turn}
use Rattle.routes.specs.Best.{preferred, outdone, moves, moved, better, best_of, in_front, best_way, best_route}
use Rattle.routes.specs.Check.{wrong_move, wrong_arrival, wrong_at, places, first_wrong_place, place_verdict, plan_verdict, route_verdict, route_told}
use Rattle.clashes.specs.Check.{plan_clash, compared, meeting_verdict, meeting_told}
use Rattle.clashes.specs.Chosen.{written, meets, swaps, happens, over_pairs, at_step, candidates, or_clear, chosen}
use Rattle.checks.specs.Demand.{Passes, Safe}
use Rattle.checks.proofs.Broken.{crossing_of, crossing, followed, one_cell, standing, always_passes_meetings}
use Rattle.checks.proofs.Demand.{plan_check_exact, zero_is_lawful, zero_is_safe}
use Rattle.tree.specs.Tree.{Node, route_under, with_route, free_routes, root_of, root, clash_of, bar_one, bar_two, child_with, child, kids_for, kids}
use Rattle.tree.proofs.Promises.{need_one}
use Rattle.tables.specs.Tables.{Tables, layers_length, needed_length, first_short, FirstShort, plan_written}
use Rattle.tables.proofs.LongTables.{short_not_long, long_exact, short_one}
use Rattle.planner.specs.Answer.{planned}
use Rattle.planner.specs.Stars.{Star, star_job, star_tables, Seen, asked, given, stars}
use Rattle.planner.proofs.Promises.{planned_promised}
use Rattle.planner.proofs.Stars.{stars_hold}
use Rattle.job.proofs.Due.{accepted_exactly, checks_accept_exactly, due_six, due_sixteen}
use Rattle.promises.specs.Promises.{Planner, Check, Runs, RefusesFirst, ShortIsSeven, TablesLeft, ZeroIsLeast, EightIsNone, ByNeed, NineByNeed, CheckIsExact, ShortPlanIsSeven}
use Rattle.promises.specs.Ours.{OurPlanner}
use Rattle.promises.proofs.Kept.{zero_is_least, nine_by_need}
use Rattle.promises.proofs.Passing.{same_cells, written_passes}
use Rattle.promises.proofs.Settle.{needs_same}

-- ---- a planner that answers each job, N and tables

pub record Given : Type 0 where
  pub told : Told
  pub after : Tables

abbrev Function : Type 0
Function = Job → ℕ → Tables → Given

abbrev by : Function → Planner
by f job n before told after = (told ≡ (f job n before).told) × (after ≡ (f job n before).after)

-- ---- the worked jobs

-- the job at place n of the table
abbrev star_at : ℕ → Star
star_at n = get_or stars n (record { width = 0; height = 0; starts = []; goals = []; slips = []; horizon = 0; capacity = 0; told = bare 0; routes = [] })

abbrev nothing : Seen
nothing = record { told = bare 0; output = [] }

abbrev RunsAt : Star → Type 0
RunsAt s = Runs (star_job s) s.capacity (star_tables s)

runs_by : (s : Star) → judge_with (wrong_capacity s.capacity) (star_job s) ≡ Ok tt → first_short (star_job s) s.capacity (star_tables s) ≡ none → RunsAt s
runs_by s accepted long =
    let (right, capacity) = (accepted_exactly (star_job s) s.capacity).0 accepted in
    record { right = right; capacity = capacity; long = (long_exact (star_job s) s.capacity (star_tables s)).0 long }

-- 3 by 3, 3→5 and 1→7, slips 0, H 4: with N 3 a plan of sum 5 with 3 records, with N 2 answer 9; one cell; and document 01's last job
runs_first : RunsAt (star_at 0)
unfolding range any_of first_of each wrong_side wrong_grid wrong_byte wrong_bytes is_open wrong_limits wrong_capacity wrong_count wrong_carrier first_wrong share pairs first_shared refuse_if carrier_verdict shared_verdict judge_with first_short stars
runs_first = runs_by (star_at 0) refl refl

runs_second : RunsAt (star_at 1)
unfolding range any_of first_of each wrong_side wrong_grid wrong_byte wrong_bytes is_open wrong_limits wrong_capacity wrong_count wrong_carrier first_wrong share pairs first_shared refuse_if carrier_verdict shared_verdict judge_with first_short stars
runs_second = runs_by (star_at 1) refl refl

runs_seventh : RunsAt (star_at 6)
unfolding range any_of first_of each wrong_side wrong_grid wrong_byte wrong_bytes is_open wrong_limits wrong_capacity wrong_count wrong_carrier first_wrong share pairs first_shared refuse_if carrier_verdict shared_verdict judge_with first_short stars
runs_seventh = runs_by (star_at 6) refl refl

-- two carriers change places on four cells: 2 by 2, 0→1 and 1→0, slips 0, H 3
abbrev exchange : Star
exchange =
    record {
      width = 2;
      height = 2;
      starts = 0 ∷ 1 ∷ [];
      goals = 1 ∷ 0 ∷ [];
      slips = 0 ∷ 0 ∷ [];
      horizon = 3;
      capacity = 128;
      told = counted 0 4 15;
      routes = (0 ∷ 2 ∷ 3 ∷ 1 ∷ []) ∷ (1 ∷ 0 ∷ 0 ∷ 0 ∷ []) ∷ [];
    }

runs_exchange : RunsAt exchange
unfolding range any_of first_of each wrong_side wrong_grid wrong_byte wrong_bytes is_open wrong_limits wrong_capacity wrong_count wrong_carrier first_wrong share pairs first_shared refuse_if carrier_verdict shared_verdict judge_with first_short
runs_exchange = runs_by exchange refl refl

-- ---- what our planner tells there

ours : (s : Star) → OurPlanner (star_job s) s.capacity (star_tables s) (given s).told (planned (star_job s) s.capacity (star_tables s)).tables
ours s =
    record {
      answer = (planned (star_job s) s.capacity (star_tables s)).answer;
      planned = record { told = refl; tables = refl; promised = planned_promised (star_job s) s.capacity (star_tables s) };
      is = refl;
    }

first_given : given (star_at 0) ≡ asked (star_at 0)
unfolding stars
first_given = ap (λ (l : List Seen). get_or l 0 nothing) stars_hold

second_given : given (star_at 1) ≡ asked (star_at 1)
unfolding stars
second_given = ap (λ (l : List Seen). get_or l 1 nothing) stars_hold

-- ---- the tree's need leaves one number and one record count

-- a planner that keeps the line tells at a worked job what ours tells
need_settles : (g : Planner) → NineByNeed g → (s : Star) → RunsAt s → (told : Told) (after : Tables) → g (star_job s) s.capacity (star_tables s) told after
    → (told.number ≡ (given s).told.number) × (told.records ≡ (given s).told.records)
unfolding NineByNeed
need_settles g keeps s runs told after p =
    let (need, end, is, told-by) = keeps (star_job s) in
    let (need', end', is', told-by') = nine_by_need (star_job s) in
    let (same, same_end) = need_one (star_job s) need' need end' end is' is in
    let b = told-by s.capacity (star_tables s) told after p runs in
    let b' = told-by' s.capacity (star_tables s) (given s).told (planned (star_job s) s.capacity (star_tables s)).tables (ours s) runs in
    needs_same (star_job s) s.capacity (star_tables s) need end told (given s).told after (planned (star_job s) s.capacity (star_tables s)).tables b (rw (same, same_end) at b')

module _ (f : Function) where
  -- what f answers at a worked job
  abbrev at : Star → Given
  at s = f (star_job s) s.capacity (star_tables s)

  module _ (keeps : NineByNeed (by f)) where
    first_told : ((at (star_at 0)).told.number ≡ 0) × ((at (star_at 0)).told.records ≡ 3)
    unfolding stars
    first_told =
        let (n, r) = need_settles (by f) keeps (star_at 0) runs_first (at (star_at 0)).told (at (star_at 0)).after (refl, refl) in
        (n ∙ ap (λ (x : Seen). x.told.number) first_given, r ∙ ap (λ (x : Seen). x.told.records) first_given)

    second_told : ((at (star_at 1)).told.number ≡ 9) × ((at (star_at 1)).told.records ≡ 2)
    unfolding stars
    second_told =
        let (n, r) = need_settles (by f) keeps (star_at 1) runs_second (at (star_at 1)).told (at (star_at 1)).after (refl, refl) in
        (n ∙ ap (λ (x : Seen). x.told.number) second_given, r ∙ ap (λ (x : Seen). x.told.records) second_given)

    -- 'always 9': with three records the first job has a plan
    pub always_nine : ((job : Job) (n : ℕ) (before : Tables) → Runs job n before → (f job n before).told.number ≡ 9) → ⊥
    unfolding stars
    always_nine always = let e = always (star_job (star_at 0)) (star_at 0).capacity (star_tables (star_at 0)) runs_first in omega (arith, first_told.0, e)

    -- or always any one number: with two records it is 9
    pub always_one_number : (k : ℕ) → ((job : Job) (n : ℕ) (before : Tables) → Runs job n before → (f job n before).told.number ≡ k) → ⊥
    unfolding stars
    always_one_number k always =
        let e = always (star_job (star_at 0)) (star_at 0).capacity (star_tables (star_at 0)) runs_first in
        let d = always (star_job (star_at 1)) (star_at 1).capacity (star_tables (star_at 1)) runs_second in
        omega (arith, first_told.0, e, second_told.0, d)

    -- 'a made-up record count': any but 3 for the first job, any but 2 where two were lent
    pub made_up_records : ((at (star_at 0)).told.records ≡ 3 → ⊥) → ⊥
    made_up_records other = other first_told.1

    pub made_up_records_at_nine : ((at (star_at 1)).told.records ≡ 2 → ⊥) → ⊥
    made_up_records_at_nine other = other second_told.1

  -- 'always 8 (demand 2: only if none exists)': the first job has a plan, the star's own
  pub always_eight : EightIsNone (by f) → ((job : Job) (n : ℕ) (before : Tables) → Runs job n before → (f job n before).told.number ≡ 8) → ⊥
  unfolding EightIsNone ZeroIsLeast stars
  always_eight keeps always =
      let (rs, plan) = zero_is_least (star_job (star_at 0)) (star_at 0).capacity (star_tables (star_at 0)) (given (star_at 0)).told _ (ours (star_at 0)) (ap (λ (x : Seen). x.told.number) first_given) in
      keeps (star_job (star_at 0)) (star_at 0).capacity (star_tables (star_at 0)) (at (star_at 0)).told (at (star_at 0)).after (refl, refl)
      (always (star_job (star_at 0)) (star_at 0).capacity (star_tables (star_at 0)) runs_first) rs plan.plan

-- ---- the plan in the output starts where the first carrier starts

starts_there : (s : Star) → 0 < (star_job s).count → (f : Function) → ZeroIsLeast (by f) → (at f s).told.number ≡ 0 → plan_cell (star_job s) (at f s).after.output 0 0 ≡ (star_job s).start_of 0
unfolding ZeroIsLeast
starts_there s one f keeps zero =
    let (rs, given) = keeps (star_job s) s.capacity (star_tables s) (at f s).told (at f s).after (refl, refl) zero in
    ap (λ (l : List ℕ). plan_cell (star_job s) l 0 0) given.written
    ∙ same_cells (star_job s) rs given.plan (star_tables s).output 0 0 one (omega arith)
    ∙ (given.plan.family.lawful 0 one).starts

module _ (f : Function) (keeps : ZeroIsLeast (by f)) where
  -- 'one fixed plan for every job (demand 2's routes and ends)': its first byte is always the same, but the first job starts on cell 3
  -- and the seventh on cell 0
  pub one_fixed_plan : (b : ℕ) → ((job : Job) (n : ℕ) (before : Tables) → Runs job n before → ((f job n before).told.number ≡ 0) × (get_or (f job n before).after.output 0 0 ≡ b)) → ⊥
  unfolding stars
  one_fixed_plan b always =
      let (z, e) = always (star_job (star_at 0)) (star_at 0).capacity (star_tables (star_at 0)) runs_first in
      let (y, d) = always (star_job (star_at 6)) (star_at 6).capacity (star_tables (star_at 6)) runs_seventh in
      let three : b ≡ 3 = sym e ∙ starts_there (star_at 0) (omega arith) f keeps z in
      let none : b ≡ 0 = sym d ∙ starts_there (star_at 6) (omega arith) f keeps y in
      omega (arith, three, none)

  -- 'a planner that writes nothing and says 0 (output)': the lent output is all zeros
  pub nothing_written : ((job : Job) (n : ℕ) (before : Tables) → Runs job n before → ((f job n before).told.number ≡ 0) × ((f job n before).after.output ≡ before.output)) → ⊥
  unfolding stars
  nothing_written never =
      let (z, e) = never (star_job (star_at 0)) (star_at 0).capacity (star_tables (star_at 0)) runs_first in
      let three : ◌≡◌ {A = ℕ} 0 3 = ap (λ (l : List ℕ). get_or l 0 0) (sym e) ∙ starts_there (star_at 0) (omega arith) f keeps z in
      omega (arith, three)

-- ---- 'one that grows the root's children and then only pretends (demand 2's least sum, demand 3's holds)'

-- where two carriers change places on four cells, each child of the root still has a meeting or a swap
abbrev children : List Node
children = each (kids (star_job exchange)) (root (star_job exchange))

abbrev handed_back : Node → List ℕ
handed_back kid = plan_written (star_job exchange) kid.routes (star_tables exchange).output

children_meet : Every (λ kid. (meeting_told (meeting_verdict (star_job exchange) (handed_back kid))).number ≡ 22) children
unfolding range greatest sum_to only keep any_of first_of each Every wrong_side wrong_grid wrong_byte wrong_bytes is_open on_grid cell_at landing reach_from reach wrong_limits wrong_count wrong_carrier first_wrong share pairs first_shared refuse_if carrier_verdict shared_verdict judge_with judge if_accepted step_cost cost bars_for bars_cell bars_way may_stand may_turn preferred outdone moves moved better best_of in_front best_way best_route written meets swaps happens over_pairs at_step candidates or_clear chosen plan_clash compared meeting_verdict plan_written route_under with_route free_routes root_of root clash_of bar_one bar_two child_with child kids_for kids
children_meet = (refl, (refl, tt))

-- so to hand back the routes of one, with whatever records, contradicts 'apart'
pub only_children_grown : (f : Function) → ZeroIsLeast (by f) → (kid : Node) → Memᴰ kid children → (at f exchange).told.number ≡ 0 → (at f exchange).after.output ≡ handed_back kid → ⊥
unfolding ZeroIsLeast
only_children_grown f keeps kid member zero back =
    let (rs, given) = keeps (star_job exchange) exchange.capacity (star_tables exchange) (at f exchange).told (at f exchange).after (refl, refl) zero in
    let passes : Passes (star_job exchange) (plan_written (star_job exchange) rs (star_tables exchange).output) =
    written_passes (star_job exchange) rs given.plan (star_tables exchange).output ((checks_accept_exactly (star_job exchange)).1 runs_exchange.right) in
    let clear : (meeting_told (meeting_verdict (star_job exchange) (handed_back kid))).number ≡ 0 =
    subst (λ (l : List ℕ). (meeting_told (meeting_verdict (star_job exchange) l)).number ≡ 0) (sym given.written ∙ back) passes.meetings in
    let meet : (meeting_told (meeting_verdict (star_job exchange) (handed_back kid))).number ≡ 22 =
    every_member (λ k. (meeting_told (meeting_verdict (star_job exchange) (handed_back k))).number ≡ 22) children children_meet member in
    let z : ◌≡◌ {A = ℕ} 0 22 = sym clear ∙ meet in
    omega (arith, z)

-- ---- 'a check that always passes, or never does (demand 3's "exactly")'

abbrev by_check : (Job → List ℕ → Fault) → Check
by_check f job plan fault = fault ≡ f job plan

-- width 3, height 1, 0→1 and 1→2, slips 1, H 1: both carriers go on at once, and the first is on cell 1 a step after the second
followed_passes : (route_told (route_verdict crossing followed)).number ≡ 0
unfolding range only keep any_of first_of each wrong_side wrong_grid wrong_byte wrong_bytes is_open on_grid cell_at landing reach_from reach may_follow wrong_limits wrong_count wrong_carrier first_wrong share pairs first_shared refuse_if carrier_verdict shared_verdict judge_with judge if_accepted wrong_move wrong_arrival wrong_at places first_wrong_place place_verdict plan_verdict route_verdict
followed_passes = refl

-- one cell, and the carrier on it
standing_passes : Passes one_cell standing
unfolding range greatest any_of first_of each wrong_side wrong_grid wrong_byte wrong_bytes is_open wrong_limits wrong_count wrong_carrier first_wrong share pairs first_shared refuse_if carrier_verdict shared_verdict judge_with judge if_accepted wrong_arrival wrong_at places first_wrong_place place_verdict plan_verdict route_verdict written meets swaps happens over_pairs at_step candidates or_clear chosen plan_clash compared meeting_verdict
standing_passes = record { routes = refl; meetings = refl }

module _ (r m : Job → List ℕ → Fault) (keeps : CheckIsExact (by_check r) (by_check m)) where
  pub always_passes : ((job : Job) (plan : List ℕ) → ((r job plan).number ≡ 0) × ((m job plan).number ≡ 0)) → ⊥
  unfolding CheckIsExact
  always_passes always =
      let (accepted, lawful) = zero_is_lawful crossing followed followed_passes in
      let safe : Safe crossing followed =
      (keeps crossing followed (r crossing followed) (m crossing followed) refl refl ((checks_accept_exactly crossing).0 accepted) lawful).0 (always crossing followed) in
      always_passes_meetings (meeting_verdict crossing followed) refl ((plan_check_exact crossing followed accepted lawful).1 safe).meetings

  pub never_passes : ((job : Job) (plan : List ℕ) → ((r job plan).number ≡ 0) × ((m job plan).number ≡ 0) → ⊥) → ⊥
  unfolding CheckIsExact
  never_passes never =
      let (accepted, lawful, safe) = zero_is_safe one_cell standing standing_passes in
      never one_cell standing ((keeps one_cell standing (r one_cell standing) (m one_cell standing) refl refl ((checks_accept_exactly one_cell).0 accepted) lawful).1 safe)

-- ---- P1's wrong refusals, at every job

module _ (f : Function) (keeps : RefusesFirst (by f)) (job : Job) (n : ℕ) (before : Tables) where
  due : (RightJob job → ⊥) → Due job (RightCapacity n) (f job n before).told
  unfolding RefusesFirst
  due wrong = (keeps job n before (f job n before).told (f job n before).after (refl, refl) (λ r. wrong r.0)).0

  module _ (i j : ℕ) (apart : i < j) (inside : j < job.count) where
    -- 16 before 6: where two carriers share a start 16 is not told
    pub goal_before_start : job.start_of i ≡ job.start_of j → (f job n before).told.number ≡ 16 → ⊥
    goal_before_start shared e = (due_sixteen job (RightCapacity n) (f job n before).told (due (λ r. r.starts i j apart inside shared)) e).0 i j apart inside shared

    -- where two share a goal, and no two a start, 6 is not told
    pub start_for_a_goal : job.goal_of i ≡ job.goal_of j → NoneShare job.start_of job.count → (f job n before).told.number ≡ 6 → ⊥
    start_for_a_goal shared starts e =
        let first = due_six job (RightCapacity n) (f job n before).told (due (λ r. r.goals i j apart inside shared)) e in
        starts (f job n before).told.carrier (f job n before).told.other first.apart first.inside first.shared

    -- nor with a later pair, as that of the greatest j
    pub later_pair_told : job.goal_of i ≡ job.goal_of j → (f job n before).told.number ≡ 16 → (f job n before).told.carrier ≡ i → j < (f job n before).told.other → ⊥
    later_pair_told shared e same later =
        let first = (due_sixteen job (RightCapacity n) (f job n before).told (due (λ r. r.goals i j apart inside shared)) e).1 in
        omega (arith, later, (first.least i j apart inside shared).1 same)

-- 16 where one carrier's goal is another's start, as in document 01's 0→1 and 1→2: that is no fault, and such a job is searched
pub goal_on_a_start : (f : Function) → TablesLeft (by f) → (job : Job) (n : ℕ) (before : Tables) → Runs job n before → (f job n before).told.number ≡ 16 → ⊥
unfolding TablesLeft
goal_on_a_start f keeps job n before runs e = go (keeps job n before (f job n before).told (f job n before).after (refl, refl) runs).number
  where
    go : ((f job n before).told.number ≡ 0) ⊎ (((f job n before).told.number ≡ 8) ⊎ ((f job n before).told.number ≡ 9)) → ⊥
    go (inl z) = omega arith
    go (inr (inl z)) = omega arith
    go (inr (inr z)) = omega arith

-- any table but the first that is short, as the last; any length but its own, as another table's, without the + 1 of H, or in bytes
module _ (f : Function) (keeps : ShortIsSeven (by f)) (job : Job) (n : ℕ) (before : Tables) (right : RightJob job) (capacity : RightCapacity n) (t : ℕ) (first : FirstShort job n before t) where
  short_told : (f job n before).told ≡ too_short t (needed_length job n t)
  unfolding ShortIsSeven
  short_told =
      let (u, found, e, x) = keeps job n before (f job n before).told (f job n before).after (refl, refl) right capacity (short_not_long job n before t first) in
      e ∙ ap (λ (k : ℕ). too_short k (needed_length job n k)) (short_one job n before u t found first)

  pub other_table_told : ((f job n before).told.table ≡ t → ⊥) → ⊥
  other_table_told other = other (ap (λ (x : Told). x.table) short_told)

  pub other_length_told : ((f job n before).told.needed ≡ needed_length job n t → ⊥) → ⊥
  other_length_told other = other (ap (λ (x : Told). x.needed) short_told)

-- the same of a plan that is too short, in either check
module _ (r m : Job → List ℕ → Fault) (keeps : ShortPlanIsSeven (by_check r) (by_check m)) (job : Job) (plan : List ℕ) (right : RightJob job) (short : length plan < plan_length job) where
  pub other_plan_length_told : (((r job plan).needed ≡ plan_length job) × ((m job plan).needed ≡ plan_length job) → ⊥) → ⊥
  unfolding ShortPlanIsSeven
  other_plan_length_told other =
      let (x, y) = keeps job plan (r job plan) (m job plan) refl refl right short in
      other (ap (λ (g : Fault). g.needed) x, ap (λ (g : Fault). g.needed) y)

-- ---- P2: 'A carrier that must lose two steps circles through other aisles'

-- two planners that keep the line and give a plan give one plan
plan_same : (job : Job) (n : ℕ) (before : Tables) (need : ℕ) (end : Option Node) (told told' : Told) (after after' : Tables) → ByNeed job n before need end told after → ByNeed job n before need end told' after' → told'.number ≡ 0 → after.output ≡ after'.output
plan_same job n before need end told told' after after' b b' zero = go (dec_le need n) end refl
  where
    go : Dec (need ≤ n) → (o : Option Node) → end ≡ o → after.output ≡ after'.output
    go (yes l) none e = let k : told'.number ≡ 8 = b'.none_left l e in absurd (omega arith)
    go (yes l) (some node) e = (b.plan l node e).1 ∙ sym (b'.plan l node e).1
    go (no l) o e = let k : told'.number ≡ 9 = (b'.under (omega (arith, l))).0 in absurd (omega arith)

third_given : given (star_at 2) ≡ asked (star_at 2)
unfolding stars
third_given = ap (λ (l : List Seen). get_or l 2 nothing) stars_hold

runs_third : RunsAt (star_at 2)
unfolding range any_of first_of each wrong_side wrong_grid wrong_byte wrong_bytes is_open wrong_limits wrong_capacity wrong_count wrong_carrier first_wrong share pairs first_shared refuse_if carrier_verdict shared_verdict judge_with first_short stars
runs_third = runs_by (star_at 2) refl refl

-- the 3 by 3 job with slips 1: carrier 0 goes up from its start, as it did before P2
pub wanders : (f : Function) → NineByNeed (by f) → get_or (at f (star_at 2)).after.output 1 9 ≡ 0 → ⊥
unfolding NineByNeed stars each
wanders f keeps up =
    let s = star_at 2 in
    let (need, end, is, told-by) = keeps (star_job s) in
    let (need', end', is', told-by') = nine_by_need (star_job s) in
    let (same, same_end) = need_one (star_job s) need' need end' end is' is in
    let b = told-by s.capacity (star_tables s) (at f s).told (at f s).after (refl, refl) runs_third in
    let b' = told-by' s.capacity (star_tables s) (given s).told (planned (star_job s) s.capacity (star_tables s)).tables (ours s) runs_third in
    let e = plan_same (star_job s) s.capacity (star_tables s) need end (at f s).told (given s).told (at f s).after (planned (star_job s) s.capacity (star_tables s)).tables b (rw (same, same_end) at b') (ap (λ (x : Seen). x.told.number) third_given) in
    let three : ◌≡◌ {A = ℕ} 0 3 = sym up ∙ ap (λ (l : List ℕ). get_or l 1 9) (e ∙ ap (λ (x : Seen). x.output) third_given) in
    omega (arith, three)

-- the second half of the layers, or any other part of their least length, not cleared: at every job
pub layers_not_cleared : (g : Planner) → TablesLeft g → (job : Job) (n : ℕ) (before : Tables) (told : Told) (after : Tables) → g job n before told after → Runs job n before
    → (x : ℕ) → x < 2 * ((job.horizon + 1) * size job.hall) → (get_or after.layers x 0 ≡ 0 → ⊥) → ⊥
unfolding TablesLeft
layers_not_cleared g keeps job n before told after p runs x h left =
    left (ap (λ (l : List ℕ). get_or l x 0) (keeps job n before told after p runs).layers ∙ zeroed_zero (layers_length job) x before.layers h)

-- ---- P3: one slip read for all carriers. 0→1 and 1→2 in a row of three cells with H 1: both go on at once, and carrier 0 is on cell 1 a
-- ---- step after carrier 1. So carrier 1's slip counts, and it alone

-- with slips 0 and 1 the two meet
followed_meets : ((route_told (route_verdict (crossing_of 0 1) followed)).number ≡ 0) × ((meeting_told (meeting_verdict (crossing_of 0 1) followed)).number ≡ 22)
unfolding range only keep any_of first_of each wrong_side wrong_grid wrong_byte wrong_bytes is_open on_grid cell_at landing reach_from reach may_follow wrong_limits wrong_count wrong_carrier first_wrong share pairs first_shared refuse_if carrier_verdict shared_verdict judge_with judge if_accepted wrong_move wrong_arrival wrong_at places first_wrong_place place_verdict plan_verdict route_verdict greatest written meets swaps happens over_pairs at_step candidates or_clear chosen plan_clash compared meeting_verdict
followed_meets = (refl, refl)

-- with slips 1 and 0 they do not
followed_clear : Passes (crossing_of 1 0) followed
unfolding range only keep any_of first_of each wrong_side wrong_grid wrong_byte wrong_bytes is_open on_grid cell_at landing reach_from reach may_follow wrong_limits wrong_count wrong_carrier first_wrong share pairs first_shared refuse_if carrier_verdict shared_verdict judge_with judge if_accepted wrong_move wrong_arrival wrong_at places first_wrong_place place_verdict plan_verdict route_verdict greatest written meets swaps happens over_pairs at_step candidates or_clear chosen plan_clash compared meeting_verdict
followed_clear = record { routes = refl; meetings = refl }

module _ (r m : Job → List ℕ → Fault) (keeps : CheckIsExact (by_check r) (by_check m)) where
  -- carrier 0's slip for both, or the slips exchanged: the plan passes
  pub first_slip_for_all : ((r (crossing_of 0 1) followed).number ≡ 0) × ((m (crossing_of 0 1) followed).number ≡ 0) → ⊥
  unfolding CheckIsExact
  first_slip_for_all passes =
      let (accepted, lawful) = zero_is_lawful (crossing_of 0 1) followed followed_meets.0 in
      let safe : Safe (crossing_of 0 1) followed =
      (keeps (crossing_of 0 1) followed (r (crossing_of 0 1) followed) (m (crossing_of 0 1) followed) refl refl ((checks_accept_exactly (crossing_of 0 1)).0 accepted) lawful).0 passes in
      let z : ◌≡◌ {A = ℕ} 22 0 = sym followed_meets.1 ∙ ((plan_check_exact (crossing_of 0 1) followed accepted lawful).1 safe).meetings in
      omega (arith, z)

  -- the greatest slip for both, or the slips exchanged: it does not
  pub greatest_slip_for_all : (((r (crossing_of 1 0) followed).number ≡ 0) × ((m (crossing_of 1 0) followed).number ≡ 0) → ⊥) → ⊥
  unfolding CheckIsExact
  greatest_slip_for_all fails =
      let (accepted, lawful, safe) = zero_is_safe (crossing_of 1 0) followed followed_clear in
      fails ((keeps (crossing_of 1 0) followed (r (crossing_of 1 0) followed) (m (crossing_of 1 0) followed) refl refl ((checks_accept_exactly (crossing_of 1 0)).0 accepted) lawful).1 safe)

-- and a planner that hands that plan back where the two meet
pub first_slip_planned : (f : Function) → ZeroIsLeast (by f) → (n : ℕ) (before : Tables) → (f (crossing_of 0 1) n before).told.number ≡ 0 → (f (crossing_of 0 1) n before).after.output ≡ followed → ⊥
unfolding ZeroIsLeast
first_slip_planned f keeps n before zero back =
    let job = crossing_of 0 1 in
    let (rs, given) = keeps job n before (f job n before).told (f job n before).after (refl, refl) zero in
    let (accepted, lawful) = zero_is_lawful job followed followed_meets.0 in
    let passes : Passes job (plan_written job rs before.output) = written_passes job rs given.plan before.output accepted in
    let clear : (meeting_told (meeting_verdict job followed)).number ≡ 0 =
    subst (λ (l : List ℕ). (meeting_told (meeting_verdict job l)).number ≡ 0) (sym given.written ∙ back) passes.meetings in
    let z : ◌≡◌ {A = ℕ} 0 22 = sym clear ∙ followed_meets.1 in
    omega (arith, z)
