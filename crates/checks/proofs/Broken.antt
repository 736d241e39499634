-- Document 01's broken versions of the checks, each refuted at a named job: 'a check that always passes, or never does'. antt
-- computes what the contract says there, and it is not what the broken version says. Assumes nothing.
use Prim.Native.Nat.{ℕ}
use native.Mathlib.Omega.{arith}
use mathlib.Core.Path.{◌≡◌, refl, sym, ap, ◌∙◌}
use mathlib.Core.List.{List, [], ◌∷◌}
use Rattle.std.specs.Prelude.{Some, None, Ok}
use Rattle.lists.specs.Lists.{range, greatest, only, keep, any_of, first_of, each, refuse_if}
use Rattle.hall.specs.Hall.{wrong_side, wrong_grid, wrong_byte, wrong_bytes, is_open}
use Rattle.hall.specs.Moves.{on_grid, cell_at, landing, reach_from, reach, may_follow}
use Rattle.job.specs.Job.{Job, wrong_limits, wrong_count, wrong_carrier, first_wrong, share, pairs, first_shared}
use Rattle.job.specs.Team.{job_of}
use Rattle.job.specs.Verdict.{carrier_verdict, shared_verdict, judge_with, judge, if_accepted}
use Rattle.routes.specs.Check.{RouteVerdict, wrong_move, wrong_arrival, wrong_at, places, first_wrong_place, place_verdict, plan_verdict, route_verdict, route_told}
use Rattle.clashes.specs.Chosen.{written, meets, swaps, happens, over_pairs, at_step, candidates, or_clear, chosen}
use Rattle.clashes.specs.Check.{MeetingVerdict, plan_clash, compared, meeting_verdict, meeting_told}
use Rattle.clashes.specs.declared.Clash.TheVariants.{Clear, Meeting}
use Rattle.checks.specs.Walk.{place_of}

-- width 3, height 1, 0→1 and 1→2 with these slips, H 1
abbrev pub crossing_of : ℕ → ℕ → Job
crossing_of one other =
    job_of 3 1 (46 ∷ 46 ∷ 46 ∷ [])
    (record { starts = 0 ∷ 1 ∷ 0 ∷ 0 ∷ 0 ∷ 0 ∷ 0 ∷ 0 ∷ []; goals = 1 ∷ 2 ∷ 0 ∷ 0 ∷ 0 ∷ 0 ∷ 0 ∷ 0 ∷ []; slips = one ∷ other ∷ 0 ∷ 0 ∷ 0 ∷ 0 ∷ 0 ∷ 0 ∷ []; count = 2 })
    1

-- both with slip 1
abbrev pub crossing : Job
crossing = crossing_of 1 1

-- the second carrier is on cell 1 at step 0, the first a step later
abbrev pub followed : List ℕ
followed = 0 ∷ 1 ∷ 1 ∷ 2 ∷ []

-- the first carrier stays on cell 0 and is not on its goal at the end
abbrev pub astray : List ℕ
astray = 0 ∷ 0 ∷ 1 ∷ 2 ∷ []

-- one cell, 0→0 with slip 0, H 0, and the only plan
abbrev pub one_cell : Job
one_cell = job_of 1 1 (46 ∷ []) (record { starts = 0 ∷ 0 ∷ 0 ∷ 0 ∷ 0 ∷ 0 ∷ 0 ∷ 0 ∷ []; goals = 0 ∷ 0 ∷ 0 ∷ 0 ∷ 0 ∷ 0 ∷ 0 ∷ 0 ∷ []; slips = 0 ∷ 0 ∷ 0 ∷ 0 ∷ 0 ∷ 0 ∷ 0 ∷ 0 ∷ []; count = 1 }) 0

abbrev pub standing : List ℕ
standing = 0 ∷ []

-- ---- the route check

astray_wrong : route_verdict crossing astray ≡ Ok (Some (place_of 0 1))
unfolding range only keep any_of first_of each wrong_side wrong_grid wrong_byte wrong_bytes is_open on_grid cell_at landing reach_from reach may_follow wrong_limits wrong_count wrong_carrier first_wrong share pairs first_shared refuse_if carrier_verdict shared_verdict judge_with judge if_accepted wrong_move wrong_arrival wrong_at places first_wrong_place place_verdict plan_verdict route_verdict
astray_wrong = refl

standing_lawful : route_verdict one_cell standing ≡ Ok None
unfolding range any_of first_of each wrong_side wrong_grid wrong_byte wrong_bytes is_open wrong_limits wrong_count wrong_carrier first_wrong share pairs first_shared refuse_if carrier_verdict shared_verdict judge_with judge if_accepted wrong_arrival wrong_at places first_wrong_place place_verdict plan_verdict route_verdict
standing_lawful = refl

pub always_passes_routes : (r : RouteVerdict) → r ≡ route_verdict crossing astray → (route_told r).number ≡ 0 → ⊥
always_passes_routes r e zero =
    let n : ◌≡◌ {A = ℕ} 21 0 = ap (λ (v : RouteVerdict). (route_told v).number) (sym (e ∙ astray_wrong)) ∙ zero in
    omega arith

pub never_passes_routes : (r : RouteVerdict) → r ≡ route_verdict one_cell standing → ((route_told r).number ≡ 0 → ⊥) → ⊥
never_passes_routes r e never = never (ap (λ (v : RouteVerdict). (route_told v).number) (e ∙ standing_lawful))

-- ---- the meeting check

followed_meets : meeting_verdict crossing followed ≡ Ok (Meeting 1 0 0 1)
unfolding range any_of first_of each wrong_side wrong_grid wrong_byte wrong_bytes is_open wrong_limits wrong_count wrong_carrier first_wrong share pairs first_shared refuse_if carrier_verdict shared_verdict judge_with judge if_accepted written meets swaps happens over_pairs at_step candidates greatest or_clear chosen plan_clash compared meeting_verdict
followed_meets = refl

standing_clear : meeting_verdict one_cell standing ≡ Ok Clear
unfolding range any_of first_of each wrong_side wrong_grid wrong_byte wrong_bytes is_open wrong_limits wrong_count wrong_carrier first_wrong share pairs first_shared refuse_if carrier_verdict shared_verdict judge_with judge if_accepted written meets swaps happens over_pairs at_step candidates greatest or_clear chosen plan_clash compared meeting_verdict
standing_clear = refl

pub always_passes_meetings : (m : MeetingVerdict) → m ≡ meeting_verdict crossing followed → (meeting_told m).number ≡ 0 → ⊥
always_passes_meetings m e zero =
    let n : ◌≡◌ {A = ℕ} 22 0 = ap (λ (v : MeetingVerdict). (meeting_told v).number) (sym (e ∙ followed_meets)) ∙ zero in
    omega arith

pub never_passes_meetings : (m : MeetingVerdict) → m ≡ meeting_verdict one_cell standing → ((meeting_told m).number ≡ 0 → ⊥) → ⊥
never_passes_meetings m e never = never (ap (λ (v : MeetingVerdict). (meeting_told v).number) (e ∙ standing_clear))
