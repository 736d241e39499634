-- What the code of the two checks rests on: each way through it gives what the definition gives where its tests came out so.
-- Assumes nothing.
use Prim.Native.Nat.{ℕ, ◌+◌, ◌-◌}
use native.Mathlib.Omega.{arith}
use mathlib.Core.Path.{◌≡◌, refl, sym, ap, ◌∙◌}
use mathlib.Core.Bool.{Bool, true, false, not, cond, true≢false}
use mathlib.Core.List.{List, [], ◌∷◌, map}
use mathlib.Core.Option.{Option as First, none, some}
use lib.Dec.{eqb}
use lib.ListN.{get_or}
use borrow.Author.Tests.{eq-eqb, ne_eqb, ltb-false}
use Rattle.std.specs.Prelude.{Option, Some, None, Result, Ok, Err, MatchOption, find, ltb, length, is_ok}
use Rattle.std.specs.List.{range_with_len}
use Rattle.lists.specs.Lists.{range, each, any_of, first_of}
use Rattle.hall.specs.Moves.{may_follow}
use Rattle.lists.proofs.Ranges.{range_listed}
use Rattle.job.specs.Job.{Job, plan_length, plan_cell}
use Rattle.job.specs.Team.{lent_job}
use Rattle.job.specs.Verdict.{Verdict, judge, judge_with, if_accepted}
use Rattle.job.specs.declared.LentJob.{LentJob}
use Rattle.job.specs.declared.Refusal.{Refusal}
use Rattle.job.specs.declared.CheckRefusal.{CheckRefusal}
use Rattle.job.specs.declared.CheckRefusal.TheVariants.{Job as OfJob, Short}
use Rattle.job.proofs.Accepted.{accepted_facts}
use Rattle.job.proofs.Refused.{if_refused}
use Rattle.routes.specs.declared.Place.{Place}
use Rattle.routes.specs.Check.{places, wrong_move, wrong_arrival, wrong_at, first_wrong_place, place_verdict, plan_verdict, route_verdict}
use Rattle.clashes.specs.Check.{plan_clash, compared, meeting_verdict}
use Rattle.clashes.specs.Find.{first_clash, Whole}
use Rattle.clashes.specs.declared.Clash.{Clash}
use Rattle.checks.specs.Walk.{Limits, Ready, begun, place_of, wrong_place, places_of, PlaceFound}

-- ---- one place of a route

module _ (job : Job) (plan : List ℕ) (i t : ℕ) where
  pub arrival_start : t ≡ 0 → (at : ℕ) → at ≡ plan_cell job plan i t → not (eqb at (job.start_of i)) ≡ wrong_arrival job i (plan_cell job plan i) t
  unfolding wrong_arrival
  arrival_start e at told = rw (told, e, wrong_arrival)

  pub arrival_move :
      (from to : ℕ)
      → from ≡ plan_cell job plan i (t - 1)
      → to ≡ plan_cell job plan i t
      → (t ≡ 0 → ⊥)
      → (r : Bool)
      → r ≡ any_of (eqb to) (may_follow job.hall from)
      → not r ≡ wrong_arrival job i (plan_cell job plan i) t
  unfolding wrong_arrival wrong_move
  arrival_move from to f e n r told = rw (told, f, e, wrong_arrival, ne_eqb t 0 n)

  module _ (arrival : Bool) (told : arrival ≡ wrong_arrival job i (plan_cell job plan i) t) where
    pub at_arrival : arrival ≡ true → true ≡ wrong_at job i (plan_cell job plan i) t
    unfolding wrong_at
    at_arrival e = simp (← told, e)

    pub at_goal : arrival ≡ false → t ≡ job.horizon → (at : ℕ) → at ≡ plan_cell job plan i t → not (eqb at (job.goal_of i)) ≡ wrong_at job i (plan_cell job plan i) t
    unfolding wrong_at
    at_goal e last at here = simp (here, ← told, e, eq-eqb t job.horizon last)

    pub at_inside : arrival ≡ false → (t ≡ job.horizon → ⊥) → false ≡ wrong_at job i (plan_cell job plan i) t
    unfolding wrong_at
    at_inside e inside = simp (← told, e, ne_eqb t job.horizon inside)

-- the same of a lent job, whose starts and goals are lists
module _ (job : LentJob) (plan : List ℕ) (i t at : ℕ) (here : at ≡ plan_cell (lent_job job) plan i t) where
  pub lent_start : t ≡ 0 → not (eqb at (get_or job.team.starts i 0)) ≡ wrong_arrival (lent_job job) i (plan_cell (lent_job job) plan i) t
  lent_start e = arrival_start (lent_job job) plan i t e at here

  pub lent_goal : (arrival : Bool) → arrival ≡ wrong_arrival (lent_job job) i (plan_cell (lent_job job) plan i) t → arrival ≡ false → t ≡ job.horizon → not (eqb at (get_or job.team.goals i 0)) ≡ wrong_at (lent_job job) i (plan_cell (lent_job job) plan i) t
  lent_goal arrival told e last = at_goal (lent_job job) plan i t arrival told e last at here

-- ---- the places, as the loops go through them

pub places_from : (job : Job) (plan : List ℕ) → first_wrong_place job (plan_cell job plan) ≡ first_of (wrong_place job plan) (each (places_of job.horizon) (range 0 (job.count - 0)))
unfolding first_wrong_place places places_of wrong_place
places_from job plan = let e : job.count - 0 ≡ job.count = omega arith in rw e

-- what `find` gives of the steps of carrier i is the first of its places that is wrong
module _ (job : Job) (plan : List ℕ) (i : ℕ) where
  wrong_step : ℕ → Bool
  wrong_step = wrong_at job i (plan_cell job plan i)

  abbrev SamePlace : Option ℕ → First Place → Type 0
  SamePlace found first = MatchOption found (first ≡ none) (λ t. first ≡ some (place_of i t))

  same_place : (ts : List ℕ) → SamePlace (find wrong_step ts) (first_of (wrong_place job plan) (map (place_of i) ts))
  unfolding first_of wrong_place wrong_step
  same_place [] = refl
  same_place (t ∷ ts) =
      elim (wrong_at job i (plan_cell job plan i) t) as (λ (b : Bool). SamePlace (cond b (Some t) (find wrong_step ts)) (elim b [ true ↦ some (place_of i t) | false ↦ first_of (wrong_place job plan) (map (place_of i) ts) ])) [ true ↦ refl | false ↦ same_place ts ]

  row_same : (found : Option ℕ) → found ≡ find wrong_step (range_with_len 0 (job.horizon + 1)) → SamePlace found (first_of (wrong_place job plan) (places_of job.horizon i))
  unfolding places_of
  row_same found e = rw (e, range_listed) (same_place (range 0 (job.horizon + 1)))

  pub row_found : (found : Option ℕ) → found ≡ find (wrong_at job i (plan_cell job plan i)) (range_with_len 0 (job.horizon + 1)) → (t : ℕ) → found ≡ Some t → first_of (wrong_place job plan) (places_of job.horizon i) ≡ some (place_of i t)
  unfolding wrong_step
  row_found found e t is = row_same (Some t) (sym is ∙ e)

  pub row_none : (found : Option ℕ) → found ≡ find (wrong_at job i (plan_cell job plan i)) (range_with_len 0 (job.horizon + 1)) → found ≡ None → first_of (wrong_place job plan) (places_of job.horizon i) ≡ none
  unfolding wrong_step
  row_none found e is = row_same None (sym is ∙ e)

-- ---- what both checks begin with

pub accepted_limits : (job : Job) (v : Verdict) → v ≡ judge_with false job → v ≡ Ok tt → Limits job
accepted_limits job v told e =
    let f = accepted_facts false job (sym told ∙ e) in
    record { width_least = f.width_least; width_most = f.width_most; height_most = f.height_most; count_most = f.count_most; slip_most = f.slip_most; horizon_most = f.horizon_most }

-- what comes after both checks' beginning
after : {A : Type 0} → Result (Unit {0}) CheckRefusal → Result A CheckRefusal → Result A CheckRefusal
after (Ok u) go = go
after (Err r) go = Err r

-- a verdict, and whether the plan is short
module _ (needed : ℕ) where
  abbrev beginning : {A : Type 0} → Verdict → Bool → Result A CheckRefusal → Result A CheckRefusal
  beginning v short go = if_accepted v (elim short [ true ↦ Err (Short needed) | false ↦ go ]) (λ r. Err (OfJob r))

  begins : {A : Type 0} (v : Verdict) (short : Bool) (go : Result A CheckRefusal) → beginning v short go ≡ after (beginning v short (Ok tt)) go
  unfolding if_accepted after
  begins (Ok u) true go = refl
  begins (Ok u) false go = refl
  begins (Err r) short go = refl

  begins_well : (v : Verdict) (short : Bool) → beginning {A = Unit {0}} v short (Ok tt) ≡ Ok tt → (v ≡ Ok tt) × (short ≡ false)
  unfolding if_accepted
  begins_well (Ok u) true e = absurd (true≢false (sym (ap is_ok e)))
  begins_well (Ok u) false e = (refl, refl)
  begins_well (Err r) short e = absurd (true≢false (sym (ap is_ok e)))

place_told : (found : Option Place) (first : First Place) → PlaceFound found first → Ok found ≡ place_verdict first
unfolding place_verdict
place_told None first e = rw e
place_told (Some p) first e = rw e

module _ (job : Job) (plan : List ℕ) where
  -- the verdicts of both checks, after their beginning
  routes_after : route_verdict job plan ≡ after (begun job plan) (place_verdict (first_wrong_place job (plan_cell job plan)))
  unfolding route_verdict plan_verdict begun
  routes_after = begins (plan_length job) (judge job) (ltb (length plan) (plan_length job)) (place_verdict (first_wrong_place job (plan_cell job plan)))

  meetings_after : meeting_verdict job plan ≡ after (begun job plan) (Ok (plan_clash job plan))
  unfolding meeting_verdict compared begun
  meetings_after = begins (plan_length job) (judge job) (ltb (length plan) (plan_length job)) (Ok (plan_clash job plan))

  pub refused_routes : (r : CheckRefusal) → begun job plan ≡ Err r → Err r ≡ route_verdict job plan
  unfolding after
  refused_routes r e = sym (routes_after ∙ ap (λ b. after b (place_verdict (first_wrong_place job (plan_cell job plan)))) e)

  pub refused_meetings : (r : CheckRefusal) → begun job plan ≡ Err r → Err r ≡ meeting_verdict job plan
  unfolding after
  refused_meetings r e = sym (meetings_after ∙ ap (λ b. after b (Ok (plan_clash job plan))) e)

  -- so a refused job is refused by both
  pub routes_refused : (r : Refusal) → judge job ≡ Err r → Err (OfJob r) ≡ route_verdict job plan
  unfolding route_verdict
  routes_refused r e = sym (if_refused (judge job) r (plan_verdict job plan) (λ q. Err (OfJob q)) e)

  pub meetings_refused : (r : Refusal) → judge job ≡ Err r → Err (OfJob r) ≡ meeting_verdict job plan
  unfolding meeting_verdict
  meetings_refused r e = sym (if_refused (judge job) r (compared job plan) (λ q. Err (OfJob q)) e)

  module _ (e : begun job plan ≡ Ok tt) where
    pub begun_ready : Ready job plan
    unfolding begun judge
    begun_ready =
        let (accepted, long) = begins_well (plan_length job) (judge job) (ltb (length plan) (plan_length job)) e in
        record { limits = accepted_limits job (judge job) refl accepted; whole = ltb-false (length plan) (plan_length job) long }

    pub begun_routes : (found : Option Place) → PlaceFound found (first_wrong_place job (plan_cell job plan)) → Ok found ≡ route_verdict job plan
    unfolding after
    begun_routes found is = place_told found (first_wrong_place job (plan_cell job plan)) is ∙ sym (routes_after ∙ ap (λ b. after b (place_verdict (first_wrong_place job (plan_cell job plan)))) e)

    begun_clash : Ok (plan_clash job plan) ≡ meeting_verdict job plan
    unfolding after
    begun_clash = sym (meetings_after ∙ ap (λ b. after b (Ok (plan_clash job plan))) e)

-- what the meeting check goes on with: the numbers of the lent team
module _ (job : LentJob) (plan : List ℕ) (e : begun (lent_job job) plan ≡ Ok tt) where
  pub begun_whole : Whole plan job.team.slips job.team.count job.horizon
  begun_whole =
      let r = begun_ready (lent_job job) plan e in
      record { few = r.limits.count_most; slow = r.limits.slip_most; short = r.limits.horizon_most; whole = r.whole }

  pub begun_meetings : (c : Clash) → c ≡ first_clash plan job.team job.horizon → Ok c ≡ meeting_verdict (lent_job job) plan
  unfolding plan_clash
  begun_meetings c is = ap Ok is ∙ begun_clash (lent_job job) plan e
