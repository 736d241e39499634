-- What the code of the two checks may assume of an accepted job, what both checks begin with, and the places of the route check
-- in the order in which it walks through them: carrier by carrier, step by step.
use Rattle.std.specs.Prelude.{ℕ, ◌+◌, ◌≤◌, ◌<◌, ◌≡◌, Bool, true, false, List, map, ltb, length, Option, MatchOption, Result, Ok, Err}
use Rattle.std.proofs.Math.Option.{Option as First, none, some}
use Rattle.lists.specs.Lists.{range}
use Rattle.hall.specs.Hall.{most_side}
use Rattle.job.specs.Job.{Job, plan_length, plan_cell, most_carriers, most_slip, most_horizon}
use Rattle.job.specs.Verdict.{judge, if_accepted}
use Rattle.job.specs.declared.CheckRefusal.{CheckRefusal}
use Rattle.job.specs.declared.CheckRefusal.TheVariants.{Job as OfJob, Short}
use Rattle.routes.specs.Check.{wrong_at}
use Rattle.routes.specs.declared.Place.{Place}

-- the numbers of an accepted job
pub record Limits (job : Job) : Type 0 where
  pub width_least : 1 ≤ job.hall.width
  pub width_most : job.hall.width ≤ most_side
  pub height_most : job.hall.height ≤ most_side
  pub count_most : job.count ≤ most_carriers
  pub slip_most : (i : ℕ) → i < job.count → job.slip_of i ≤ most_slip
  pub horizon_most : job.horizon ≤ most_horizon

-- with them a plan that is long enough
pub record Ready (job : Job) (plan : List ℕ) : Type 0 where
  pub limits : Limits job
  pub whole : plan_length job ≤ length plan

-- 'Both begin with checks 1 to 6 (no N there), then 7 if the plan is shorter than m × (H + 1)'
unfoldable pub begun : Job → List ℕ → Result (Unit {0}) CheckRefusal
begun job plan = if_accepted (judge job) (elim (ltb (length plan) (plan_length job)) [ true ↦ Err (Short (plan_length job)) | false ↦ Ok tt ]) (λ r. Err (OfJob r))

abbrev pub place_of : ℕ → ℕ → Place
place_of i t = record { carrier = i; step = t }

-- is the plan wrong at a place?
unfoldable pub wrong_place : Job → List ℕ → Place → Bool
wrong_place job plan p = wrong_at job p.carrier (plan_cell job plan p.carrier) p.step

-- the places of carrier i, step by step
unfoldable pub places_of : ℕ → ℕ → List Place
places_of h i = map (place_of i) (range 0 (h + 1))

-- what was found is the first place, or nothing was found and there is none
abbrev pub PlaceFound : Option Place → First Place → Type 0
PlaceFound found first = MatchOption found (first ≡ none) (λ p. first ≡ some p)
