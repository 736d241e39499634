-- Wrong answers of the two checks besides document 01's broken versions, each refuted at a small job: antt computes what the contract
-- says there. Assumes nothing.
use Prim.Native.Nat.{ℕ}
use native.Mathlib.Omega.{arith}
use mathlib.Core.Path.{◌≡◌, ap}
use mathlib.Core.List.{List, [], ◌∷◌}
use Rattle.std.specs.Prelude.{Some, None, Ok, Err}
use Rattle.lists.specs.Lists.{range, greatest, only, keep, any_of, first_of, each, refuse_if}
use Rattle.hall.specs.Hall.{wrong_side, wrong_grid, wrong_byte, wrong_bytes, is_open}
use Rattle.hall.specs.Moves.{on_grid, cell_at, landing, reach_from, reach, may_follow}
use Rattle.job.specs.Job.{Job, wrong_limits, wrong_count, wrong_carrier, first_wrong, share, pairs, first_shared}
use Rattle.job.specs.Team.{job_of}
use Rattle.job.specs.Verdict.{carrier_verdict, shared_verdict, judge_with, judge, if_accepted}
use Rattle.job.specs.declared.Refusal.TheVariants.{WrongLimits, SharedStart, SharedGoal}
use Rattle.job.proofs.Wrong.{three, eight}
use Rattle.job.specs.declared.CheckRefusal.TheVariants.{Job as OfJob, Short}
use Rattle.routes.specs.Check.{RouteVerdict, wrong_move, wrong_arrival, wrong_at, places, first_wrong_place, place_verdict, plan_verdict, route_verdict, route_told}
use Rattle.clashes.specs.Chosen.{written, meets, swaps, happens, over_pairs, at_step, candidates, or_clear, chosen}
use Rattle.clashes.specs.Check.{MeetingVerdict, plan_clash, compared, meeting_verdict, meeting_told}
use Rattle.clashes.specs.declared.Clash.TheVariants.{Clear, Meeting}
use Rattle.checks.proofs.Broken.{crossing_of, crossing, followed}
use Rattle.checks.specs.Walk.{place_of}

-- three cells in a row, one carrier, 0→2 with slip 0, H 2
abbrev aisle : Job
aisle = job_of 3 1 (46 ∷ 46 ∷ 46 ∷ []) (record { starts = 0 ∷ 0 ∷ 0 ∷ 0 ∷ 0 ∷ 0 ∷ 0 ∷ 0 ∷ []; goals = 2 ∷ 0 ∷ 0 ∷ 0 ∷ 0 ∷ 0 ∷ 0 ∷ 0 ∷ []; slips = 0 ∷ 0 ∷ 0 ∷ 0 ∷ 0 ∷ 0 ∷ 0 ∷ 0 ∷ []; count = 1 }) 2

abbrev number : RouteVerdict → ℕ
number v = (route_told v).number

-- ---- check_routes

-- a plan that begins on the goal: the start not looked at
pub start_not_looked_at : Ok None ≡ route_verdict aisle (2 ∷ 2 ∷ 2 ∷ []) → ⊥
unfolding range only keep any_of first_of each wrong_side wrong_grid wrong_byte wrong_bytes is_open on_grid cell_at landing reach_from reach may_follow wrong_limits wrong_count wrong_carrier first_wrong share pairs first_shared refuse_if carrier_verdict shared_verdict judge_with judge if_accepted wrong_move wrong_arrival wrong_at places first_wrong_place place_verdict plan_verdict route_verdict
start_not_looked_at e = let z : ◌≡◌ {A = ℕ} 0 21 = ap number e in omega arith

-- a move over two cells: looked at from the step at which it arrives
pub move_from_the_wrong_step : Ok None ≡ route_verdict aisle (0 ∷ 0 ∷ 2 ∷ []) → ⊥
unfolding range only keep any_of first_of each wrong_side wrong_grid wrong_byte wrong_bytes is_open on_grid cell_at landing reach_from reach may_follow wrong_limits wrong_count wrong_carrier first_wrong share pairs first_shared refuse_if carrier_verdict shared_verdict judge_with judge if_accepted wrong_move wrong_arrival wrong_at places first_wrong_place place_verdict plan_verdict route_verdict
move_from_the_wrong_step e = let z : ◌≡◌ {A = ℕ} 0 21 = ap number e in omega arith

-- a carrier that is not on its goal at H: the last step not looked at
pub steps_end_early : Ok None ≡ route_verdict aisle (0 ∷ 1 ∷ 1 ∷ []) → ⊥
unfolding range only keep any_of first_of each wrong_side wrong_grid wrong_byte wrong_bytes is_open on_grid cell_at landing reach_from reach may_follow wrong_limits wrong_count wrong_carrier first_wrong share pairs first_shared refuse_if carrier_verdict shared_verdict judge_with judge if_accepted wrong_move wrong_arrival wrong_at places first_wrong_place place_verdict plan_verdict route_verdict
steps_end_early e = let z : ◌≡◌ {A = ℕ} 0 21 = ap number e in omega arith

-- the same told one step early: the goal looked at before the last step
pub goal_before_the_last_step : Ok (Some (place_of 0 1)) ≡ route_verdict aisle (0 ∷ 1 ∷ 1 ∷ []) → ⊥
unfolding range only keep any_of first_of each wrong_side wrong_grid wrong_byte wrong_bytes is_open on_grid cell_at landing reach_from reach may_follow wrong_limits wrong_count wrong_carrier first_wrong share pairs first_shared refuse_if carrier_verdict shared_verdict judge_with judge if_accepted wrong_move wrong_arrival wrong_at places first_wrong_place place_verdict plan_verdict route_verdict
goal_before_the_last_step e = let z : ◌≡◌ {A = ℕ} 1 2 = ap (λ (v : RouteVerdict). (route_told v).step) e in omega arith

-- a plan of H bytes, one too few
pub length_one_short : Ok None ≡ route_verdict aisle (0 ∷ 1 ∷ []) → ⊥
unfolding range only keep any_of first_of each wrong_side wrong_grid wrong_byte wrong_bytes is_open on_grid cell_at landing reach_from reach may_follow wrong_limits wrong_count wrong_carrier first_wrong share pairs first_shared refuse_if carrier_verdict shared_verdict judge_with judge if_accepted wrong_move wrong_arrival wrong_at places first_wrong_place place_verdict plan_verdict route_verdict
length_one_short e = let z : ◌≡◌ {A = ℕ} 0 7 = ap number e in omega arith

-- ---- P1, in both checks

abbrev meeting_number : MeetingVerdict → ℕ
meeting_number v = (meeting_told v).number

-- 7 at the job of the broken checks, two routes of two cells: m × H told for m × (H + 1)
pub needed_as_m_times_H_for_routes : Err (Short 2) ≡ route_verdict crossing [] → ⊥
unfolding range any_of first_of each wrong_side wrong_grid wrong_byte wrong_bytes is_open wrong_limits wrong_count wrong_carrier first_wrong share pairs first_shared refuse_if carrier_verdict shared_verdict judge_with judge if_accepted plan_verdict route_verdict
needed_as_m_times_H_for_routes e = let z : ◌≡◌ {A = ℕ} 2 4 = ap (λ (v : RouteVerdict). (route_told v).needed) e in omega arith

pub needed_as_m_times_H_for_meetings : Err (Short 2) ≡ meeting_verdict crossing [] → ⊥
unfolding range any_of first_of each wrong_side wrong_grid wrong_byte wrong_bytes is_open wrong_limits wrong_count wrong_carrier first_wrong share pairs first_shared refuse_if carrier_verdict shared_verdict judge_with judge if_accepted compared meeting_verdict
needed_as_m_times_H_for_meetings e = let z : ◌≡◌ {A = ℕ} 2 4 = ap (λ (v : MeetingVerdict). (meeting_told v).needed) e in omega arith

-- ---- the jobs of crate job's wrong answers: three carriers with one goal, and P1's own, whose carriers 0 and 1 share a goal and 6
-- ---- and 7 a start

-- the pair of the greatest j, whatever the plan
pub greatest_j_told_for_routes : (plan : List ℕ) → Err (OfJob (SharedGoal 0 2)) ≡ route_verdict three plan → ⊥
unfolding range any_of first_of each wrong_side wrong_grid wrong_byte wrong_bytes is_open wrong_limits wrong_count wrong_carrier first_wrong share pairs first_shared refuse_if carrier_verdict shared_verdict judge_with judge if_accepted route_verdict
greatest_j_told_for_routes plan e = let z : ◌≡◌ {A = ℕ} 2 1 = ap (λ (v : RouteVerdict). (route_told v).other) e in omega arith

pub greatest_j_told_for_meetings : (plan : List ℕ) → Err (OfJob (SharedGoal 0 2)) ≡ meeting_verdict three plan → ⊥
unfolding range any_of first_of each wrong_side wrong_grid wrong_byte wrong_bytes is_open wrong_limits wrong_count wrong_carrier first_wrong share pairs first_shared refuse_if carrier_verdict shared_verdict judge_with judge if_accepted meeting_verdict
greatest_j_told_for_meetings plan e = let z : ◌≡◌ {A = ℕ} 2 1 = ap (λ (v : MeetingVerdict). (meeting_told v).other) e in omega arith

-- document 01's 6 for a shared goal
pub shared_goal_refused_with_6_for_routes : (plan : List ℕ) → Err (OfJob (SharedStart 0 1)) ≡ route_verdict three plan → ⊥
unfolding range any_of first_of each wrong_side wrong_grid wrong_byte wrong_bytes is_open wrong_limits wrong_count wrong_carrier first_wrong share pairs first_shared refuse_if carrier_verdict shared_verdict judge_with judge if_accepted route_verdict
shared_goal_refused_with_6_for_routes plan e = let z : ◌≡◌ {A = ℕ} 6 16 = ap number e in omega arith

pub shared_goal_refused_with_6_for_meetings : (plan : List ℕ) → Err (OfJob (SharedStart 0 1)) ≡ meeting_verdict three plan → ⊥
unfolding range any_of first_of each wrong_side wrong_grid wrong_byte wrong_bytes is_open wrong_limits wrong_count wrong_carrier first_wrong share pairs first_shared refuse_if carrier_verdict shared_verdict judge_with judge if_accepted meeting_verdict
shared_goal_refused_with_6_for_meetings plan e = let z : ◌≡◌ {A = ℕ} 6 16 = ap meeting_number e in omega arith

-- 7 before 16: the plan is empty
pub seven_given_before_16_for_routes : (needed : ℕ) → Err (Short needed) ≡ route_verdict three [] → ⊥
unfolding range any_of first_of each wrong_side wrong_grid wrong_byte wrong_bytes is_open wrong_limits wrong_count wrong_carrier first_wrong share pairs first_shared refuse_if carrier_verdict shared_verdict judge_with judge if_accepted route_verdict
seven_given_before_16_for_routes needed e = let z : ◌≡◌ {A = ℕ} 7 16 = ap number e in omega arith

pub seven_given_before_16_for_meetings : (needed : ℕ) → Err (Short needed) ≡ meeting_verdict three [] → ⊥
unfolding range any_of first_of each wrong_side wrong_grid wrong_byte wrong_bytes is_open wrong_limits wrong_count wrong_carrier first_wrong share pairs first_shared refuse_if carrier_verdict shared_verdict judge_with judge if_accepted meeting_verdict
seven_given_before_16_for_meetings needed e = let z : ◌≡◌ {A = ℕ} 7 16 = ap meeting_number e in omega arith

-- 16 before 6, whatever the plan
pub goal_told_before_start_for_routes : (plan : List ℕ) → Err (OfJob (SharedGoal 0 1)) ≡ route_verdict eight plan → ⊥
unfolding range any_of first_of each wrong_side wrong_grid wrong_byte wrong_bytes is_open wrong_limits wrong_count wrong_carrier first_wrong share pairs first_shared refuse_if carrier_verdict shared_verdict judge_with judge if_accepted route_verdict
goal_told_before_start_for_routes plan e = let z : ◌≡◌ {A = ℕ} 16 6 = ap number e in omega arith

pub goal_told_before_start_for_meetings : (plan : List ℕ) → Err (OfJob (SharedGoal 0 1)) ≡ meeting_verdict eight plan → ⊥
unfolding range any_of first_of each wrong_side wrong_grid wrong_byte wrong_bytes is_open wrong_limits wrong_count wrong_carrier first_wrong share pairs first_shared refuse_if carrier_verdict shared_verdict judge_with judge if_accepted meeting_verdict
goal_told_before_start_for_meetings plan e = let z : ◌≡◌ {A = ℕ} 16 6 = ap meeting_number e in omega arith

-- ---- P3, in both checks, at the job of the broken checks with other slips

-- document 01's 3 for a slip of 5, whatever the plan
pub slip_refused_with_3_for_routes : (plan : List ℕ) → Err (OfJob WrongLimits) ≡ route_verdict (crossing_of 0 5) plan → ⊥
unfolding range any_of first_of each wrong_side wrong_grid wrong_byte wrong_bytes is_open wrong_limits wrong_count wrong_carrier first_wrong share pairs first_shared refuse_if carrier_verdict shared_verdict judge_with judge if_accepted route_verdict
slip_refused_with_3_for_routes plan e = let z : ◌≡◌ {A = ℕ} 3 5 = ap number e in omega arith

pub slip_refused_with_3_for_meetings : (plan : List ℕ) → Err (OfJob WrongLimits) ≡ meeting_verdict (crossing_of 0 5) plan → ⊥
unfolding range any_of first_of each wrong_side wrong_grid wrong_byte wrong_bytes is_open wrong_limits wrong_count wrong_carrier first_wrong share pairs first_shared refuse_if carrier_verdict shared_verdict judge_with judge if_accepted meeting_verdict
slip_refused_with_3_for_meetings plan e = let z : ◌≡◌ {A = ℕ} 3 5 = ap meeting_number e in omega arith

-- a slip of 5 not looked at: the routes are lawful, and carrier 0 comes to cell 1 a step after carrier 1
pub slip_not_looked_at_for_routes : Ok None ≡ route_verdict (crossing_of 0 5) followed → ⊥
unfolding range any_of first_of each wrong_side wrong_grid wrong_byte wrong_bytes is_open wrong_limits wrong_count wrong_carrier first_wrong share pairs first_shared refuse_if carrier_verdict shared_verdict judge_with judge if_accepted route_verdict
slip_not_looked_at_for_routes e = let z : ◌≡◌ {A = ℕ} 0 5 = ap number e in omega arith

pub slip_not_looked_at_for_meetings : Ok (Meeting 1 0 0 1) ≡ meeting_verdict (crossing_of 0 5) followed → ⊥
unfolding range any_of first_of each wrong_side wrong_grid wrong_byte wrong_bytes is_open wrong_limits wrong_count wrong_carrier first_wrong share pairs first_shared refuse_if carrier_verdict shared_verdict judge_with judge if_accepted meeting_verdict
slip_not_looked_at_for_meetings e = let z : ◌≡◌ {A = ℕ} 22 5 = ap meeting_number e in omega arith

-- Carrier 1, the earlier on cell 1, may slip one step, carrier 0 none. The slips exchanged, or carrier 0's read for all: no meeting
pub slips_exchanged : Ok Clear ≡ meeting_verdict (crossing_of 0 1) followed → ⊥
unfolding range any_of first_of each wrong_side wrong_grid wrong_byte wrong_bytes is_open wrong_limits wrong_count wrong_carrier first_wrong share pairs first_shared refuse_if carrier_verdict shared_verdict judge_with judge if_accepted written meets swaps happens over_pairs at_step candidates greatest or_clear chosen plan_clash compared meeting_verdict
slips_exchanged e = let z : ◌≡◌ {A = ℕ} 0 22 = ap meeting_number e in omega arith

-- and the other way round. The slips exchanged, or the greatest read for all: a meeting
pub greatest_slip_for_all : Ok (Meeting 1 0 0 1) ≡ meeting_verdict (crossing_of 1 0) followed → ⊥
unfolding range any_of first_of each wrong_side wrong_grid wrong_byte wrong_bytes is_open wrong_limits wrong_count wrong_carrier first_wrong share pairs first_shared refuse_if carrier_verdict shared_verdict judge_with judge if_accepted written meets swaps happens over_pairs at_step candidates greatest or_clear chosen plan_clash compared meeting_verdict
greatest_slip_for_all e = let z : ◌≡◌ {A = ℕ} 22 0 = ap meeting_number e in omega arith
