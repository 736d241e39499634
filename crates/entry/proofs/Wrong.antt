-- Wrong answers that the contracts of the entry points rule out, at document 01's jobs with their carriers lent as records: what the
-- planner and the checks below give there is known (`stars_hold`, and the broken checks of crate checks). Numbers handed on in each
-- other's place are refuted at jobs of their own, where antt computes both verdicts. Assumes nothing.
use Prim.Native.Nat.{ℕ}
use native.Mathlib.Omega.{arith}
use mathlib.Core.Path.{◌≡◌, sym, subst, ap, ◌∙◌}
use mathlib.Core.List.{List, [], ◌∷◌, head-eq_of_cons-eq, tail-eq_of_cons-eq}
use lib.ListN.{get_or, replicate}
use Rattle.lists.specs.Lists.{range, greatest, only, keep, any_of, first_of, each, refuse_if}
use Rattle.hall.specs.Hall.{wrong_side, wrong_grid, wrong_byte, wrong_bytes, is_open}
use Rattle.hall.specs.Moves.{on_grid, cell_at, landing, reach_from, reach, may_follow}
use Rattle.job.specs.Job.{Job, wrong_limits, wrong_count, wrong_carrier, first_wrong, share, pairs, first_shared}
use Rattle.job.specs.Team.{job_of}
use Rattle.job.specs.Verdict.{carrier_verdict, shared_verdict, judge_with, judge, if_accepted}
use Rattle.job.specs.Told.{counted}
use Rattle.job.specs.declared.Told.{Told}
use Rattle.tables.specs.Tables.{Tables}
use Rattle.routes.specs.Check.{RouteVerdict, wrong_move, wrong_arrival, wrong_at, places, first_wrong_place, place_verdict, plan_verdict, route_verdict, route_told}
use Rattle.clashes.specs.Chosen.{written, meets, swaps, happens, over_pairs, at_step, candidates, or_clear, chosen}
use Rattle.clashes.specs.Check.{MeetingVerdict, plan_clash, compared, meeting_verdict, meeting_told}
use Rattle.checks.proofs.Broken.{followed, astray, standing, always_passes_routes, never_passes_routes, always_passes_meetings, never_passes_meetings}
use Rattle.planner.specs.Answer.{Answer, planned, answer_told}
use Rattle.planner.specs.Post.{Planned}
use Rattle.planner.specs.Stars.{Star, star_job, star_tables, Seen, asked, given, stars}
use Rattle.planner.proofs.Stars.{stars_hold}
use Rattle.carriers.specs.Lent.{records_team}
use Rattle.carriers.specs.declared.Carrier.{Carrier}
use Rattle.carriers.proofs.Padded.{job_padded}

-- ---- plan: 3 by 3, 3→5 and 1→7 with slips 0, H 4, with N 3 a plan of sum 5, with N 2 answer 9

abbrev crossroads : List Carrier
crossroads = record { start = 3; goal = 5; slip = 0 } ∷ record { start = 1; goal = 7; slip = 0 } ∷ []

abbrev lent_job : Job
lent_job = job_of 3 3 (replicate 9 46) (records_team crossroads) 4

abbrev star_with : ℕ → Told → List (List ℕ) → Star
star_with n told routes =
    record { width = 3; height = 3; starts = 3 ∷ 1 ∷ []; goals = 5 ∷ 7 ∷ []; slips = 0 ∷ 0 ∷ []; horizon = 4; capacity = n; told = told; routes = routes }

abbrev three : Star
three = star_with 3 (counted 0 5 3) ((3 ∷ 3 ∷ 4 ∷ 5 ∷ 5 ∷ []) ∷ (1 ∷ 4 ∷ 7 ∷ 7 ∷ 7 ∷ []) ∷ [])

abbrev two : Star
two = star_with 2 (counted 9 0 2) []

three-given : given three ≡ asked three
unfolding stars
three-given = head-eq_of_cons-eq stars_hold

two-given : given two ≡ asked two
unfolding stars
two-given = head-eq_of_cons-eq (tail-eq_of_cons-eq stars_hold)

-- what the contract allows at the lent job is what the star asks
lent_asked : (s : Star) → lent_job ≡ star_job s → given s ≡ asked s → (r : Answer) (after : Tables)
    → Planned lent_job s.capacity (star_tables s) r after → record { told = answer_told r; output = after.output } ≡ asked s
lent_asked s same known r after p =
    let q : Planned (star_job s) s.capacity (star_tables s) r after = subst (λ (job : Job). Planned job s.capacity (star_tables s) r after) same p in
    let answer : r ≡ (planned (star_job s) s.capacity (star_tables s)).answer = q.told in
    let output : after.output ≡ (planned (star_job s) s.capacity (star_tables s)).tables.output = ap (λ (ts : Tables). ts.output) q.tables in
    let is : record { told = answer_told r; output = after.output } ≡ given s = cc in
    is ∙ known

lent_star : lent_job ≡ star_job three
lent_star = job_padded 3 3 (replicate 9 46) (3 ∷ 1 ∷ []) (5 ∷ 7 ∷ []) (0 ∷ 0 ∷ []) 6 2 4

-- always 8, always 9, or any one number
pub lent_always_one_number : (n : ℕ) (r r' : Answer) (after after' : Tables)
    → Planned lent_job 3 (star_tables three) r after → (answer_told r).number ≡ n → Planned lent_job 2 (star_tables two) r' after' → (answer_told r').number ≡ n → ⊥
lent_always_one_number n r r' after after' p e p' e' =
    let one : (answer_told r).number ≡ 0 = ap (λ (x : Seen). x.told.number) (lent_asked three lent_star three-given r after p) in
    let other : (answer_told r').number ≡ 9 = ap (λ (x : Seen). x.told.number) (lent_asked two lent_star two-given r' after' p') in
    omega arith

-- nothing written: the output was zeros
pub lent_nothing_written : (r : Answer) (after : Tables) → Planned lent_job 3 (star_tables three) r after → after.output ≡ (star_tables three).output → ⊥
unfolding each
lent_nothing_written r after p never =
    let z : ◌≡◌ {A = ℕ} 0 3 = ap (λ (l : List ℕ). get_or l 0 9) (sym never ∙ ap (λ (x : Seen). x.output) (lent_asked three lent_star three-given r after p)) in
    omega arith

-- ---- check_routes and check_meetings: width 3, height 1, 0→1 and 1→2, both with slip 1, H 1; and one cell, 0→0 with slip 0, H 0

abbrev lent_crossing_of : ℕ → ℕ → Job
lent_crossing_of one other = job_of 3 1 (46 ∷ 46 ∷ 46 ∷ []) (records_team (record { start = 0; goal = 1; slip = one } ∷ record { start = 1; goal = 2; slip = other } ∷ [])) 1

abbrev pub lent_crossing : Job
lent_crossing = lent_crossing_of 1 1

abbrev lent_cell : Job
lent_cell = job_of 1 1 (46 ∷ []) (records_team (record { start = 0; goal = 0; slip = 0 } ∷ [])) 0

pub lent_always_passes_routes : (r : RouteVerdict) → r ≡ route_verdict lent_crossing astray → (route_told r).number ≡ 0 → ⊥
lent_always_passes_routes = always_passes_routes

pub lent_never_passes_routes : (r : RouteVerdict) → r ≡ route_verdict lent_cell standing → ((route_told r).number ≡ 0 → ⊥) → ⊥
lent_never_passes_routes = never_passes_routes

pub lent_always_passes_meetings : (m : MeetingVerdict) → m ≡ meeting_verdict lent_crossing followed → (meeting_told m).number ≡ 0 → ⊥
lent_always_passes_meetings = always_passes_meetings

pub lent_never_passes_meetings : (m : MeetingVerdict) → m ≡ meeting_verdict lent_cell standing → ((meeting_told m).number ≡ 0 → ⊥) → ⊥
lent_never_passes_meetings = never_passes_meetings

-- width 2, height 3, 0→2 with slip 0, H 1: two cells in one column, and in no column or row of a hall of width 3
abbrev lent_column : ℕ → ℕ → Job
lent_column width height = job_of width height (replicate 6 46) (records_team (record { start = 0; goal = 2; slip = 0 } ∷ [])) 1

abbrev downward : List ℕ
downward = 0 ∷ 2 ∷ []

pub lent_width_and_height_exchanged : (r : RouteVerdict) → r ≡ route_verdict (lent_column 2 3) downward → r ≡ route_verdict (lent_column 3 2) downward → ⊥
unfolding range only keep any_of first_of each wrong_side wrong_grid wrong_byte wrong_bytes is_open on_grid cell_at landing reach_from reach may_follow wrong_limits wrong_count wrong_carrier first_wrong share pairs first_shared refuse_if carrier_verdict shared_verdict judge_with judge if_accepted wrong_move wrong_arrival wrong_at places first_wrong_place place_verdict plan_verdict route_verdict
lent_width_and_height_exchanged r right wrong =
    let z : ◌≡◌ {A = ℕ} 0 21 = ap (λ (v : RouteVerdict). (route_told v).number) (sym right ∙ wrong) in
    omega arith

-- the second carrier slips and the first does not: it is still on cell 1 when the first comes, and would not be if the slip were the
-- first's
pub lent_slips_exchanged : (m : MeetingVerdict) → m ≡ meeting_verdict (lent_crossing_of 0 1) followed → m ≡ meeting_verdict (lent_crossing_of 1 0) followed → ⊥
unfolding range greatest any_of first_of each wrong_side wrong_grid wrong_byte wrong_bytes is_open wrong_limits wrong_count wrong_carrier first_wrong share pairs first_shared refuse_if carrier_verdict shared_verdict judge_with judge if_accepted written meets swaps happens over_pairs at_step candidates or_clear chosen plan_clash compared meeting_verdict
lent_slips_exchanged m right wrong =
    let z : ◌≡◌ {A = ℕ} 22 0 = ap (λ (v : MeetingVerdict). (meeting_told v).number) (sym right ∙ wrong) in
    omega arith

-- width 3, height 1, from cell 0, H 1: goal 1 with slip 2 is reached, goal 2 with slip 1 is not
abbrev lent_step : ℕ → ℕ → Job
lent_step goal slip = job_of 3 1 (46 ∷ 46 ∷ 46 ∷ []) (records_team (record { start = 0; goal = goal; slip = slip } ∷ [])) 1

pub lent_goal_and_slip_exchanged : (r : RouteVerdict) → r ≡ route_verdict (lent_step 1 2) (0 ∷ 1 ∷ []) → r ≡ route_verdict (lent_step 2 1) (0 ∷ 1 ∷ []) → ⊥
unfolding range only keep any_of first_of each wrong_side wrong_grid wrong_byte wrong_bytes is_open on_grid cell_at landing reach_from reach may_follow wrong_limits wrong_count wrong_carrier first_wrong share pairs first_shared refuse_if carrier_verdict shared_verdict judge_with judge if_accepted wrong_move wrong_arrival wrong_at places first_wrong_place place_verdict plan_verdict route_verdict
lent_goal_and_slip_exchanged r right wrong =
    let z : ◌≡◌ {A = ℕ} 0 21 = ap (λ (v : RouteVerdict). (route_told v).number) (sym right ∙ wrong) in
    omega arith
