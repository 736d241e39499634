-- Document 01, 'Numbers given back': the route check. 'Both begin with checks 1 to 6 (no N there), then 7 if the plan is
-- shorter than m × (H + 1); bytes after that length are not read. The route check then says 0, or 21 with the first
-- carrier, and its first step, at which the start, a move, a cell or the goal is wrong (a wrong move counts at the step it
-- arrives; step H if only the goal is wrong).' P1: 16 'directly after 6 wherever 6 is given', and 7 with 'the length it needed'.
use Rattle.std.specs.Prelude.{ℕ, ◌+◌, ◌-◌, Bool, true, false, not, ◌&&◌, ◌||◌, List, map, eqb, ltb, length, Option, Some, None, Result, Ok, Err}
use Rattle.std.proofs.Math.Option.{Option as First, none, some}
use Rattle.lists.specs.Lists.{range, each, any_of, first_of}
use Rattle.hall.specs.Hall.{Hall}
use Rattle.hall.specs.Moves.{may_follow}
use Rattle.job.specs.Job.{Job, plan_length, plan_cell}
use Rattle.job.specs.Told.{bare, fault, refusal}
use Rattle.job.specs.declared.Fault.{Fault}
use Rattle.job.specs.Verdict.{judge, check_refusal_told, if_accepted}
use Rattle.job.specs.declared.CheckRefusal.{CheckRefusal}
use Rattle.job.specs.declared.CheckRefusal.TheVariants.{Job as OfJob, Short}
use Rattle.routes.specs.declared.Place.{Place}

unfoldable pub wrong_move : Hall → ℕ → ℕ → Bool
wrong_move hall u v = not (any_of (eqb v) (may_follow hall u))

unfoldable pub wrong_arrival : Job → ℕ → (ℕ → ℕ) → ℕ → Bool
wrong_arrival job i cell t = elim (eqb t 0) [ true ↦ not (eqb (cell 0) (job.start_of i)) | false ↦ wrong_move job.hall (cell (t - 1)) (cell t) ]

unfoldable pub wrong_at : Job → ℕ → (ℕ → ℕ) → ℕ → Bool
wrong_at job i cell t = wrong_arrival job i cell t || (eqb t job.horizon && not (eqb (cell t) (job.goal_of i)))

unfoldable pub places : ℕ → ℕ → List Place
places m h = each (λ i. map (λ t. record { carrier = i; step = t }) (range 0 (h + 1))) (range 0 m)

unfoldable pub first_wrong_place : Job → (ℕ → ℕ → ℕ) → First Place
first_wrong_place job cell = first_of (λ p. wrong_at job p.carrier (cell p.carrier) p.step) (places job.count job.horizon)

-- what the route check says: the first wrong place or none, or what refuses the job or the plan's length
abbrev pub RouteVerdict : Type 0
RouteVerdict = Result (Option Place) CheckRefusal

unfoldable pub place_verdict : First Place → RouteVerdict
place_verdict none = Ok None
place_verdict (some p) = Ok (Some p)

unfoldable pub plan_verdict : Job → List ℕ → RouteVerdict
plan_verdict job plan = elim (ltb (length plan) (plan_length job)) [ true ↦ Err (Short (plan_length job)) | false ↦ place_verdict (first_wrong_place job (plan_cell job plan)) ]

unfoldable pub route_verdict : Job → List ℕ → RouteVerdict
route_verdict job plan = if_accepted (judge job) (plan_verdict job plan) (λ r. Err (OfJob r))

-- the number and what is told, for each case
abbrev pub route_told : RouteVerdict → Fault
route_told (Ok None) = refusal (bare 0)
route_told (Ok (Some p)) = fault 21 p.carrier 0 p.step 0 0
route_told (Err r) = check_refusal_told r
