-- The stretches of the plans table after a stretch is copied to the next place, and after one route of it is written: a part that
-- does not meet what was written is as it was. Assumes nothing.
use Prim.Native.Nat.{ℕ, ◌+◌, ◌*◌, ◌≤◌, ◌<◌}
use native.Mathlib.Omega.{arith}
use native.Mathlib.Decide.{ℕ_discrete, dec_lt}
use mathlib.Core.Path.{◌≡◌, sym, ap, ◌∙◌}
use mathlib.Core.List.{List, []}
use lib.ListN.{length, take, drop, set, length-set, length-map}
use lib.Seq.{paste, drop-drop, get_or-set_same, get_or-set_other, ext_get_or}
use Rattle.routes.specs.Route.{route_in}
use Rattle.lists.specs.Lists.{range}
use Rattle.lists.proofs.Parts.{part_within, part_of_part, written, written_here, written_below, written_above, paste-written}
use Rattle.lists.proofs.Ranges.{range_length}
use Rattle.job.specs.Job.{Job, plan_length}
use Rattle.tables.specs.State.{routes_in, stretch_at}
use Rattle.tables.proofs.Costs.{route_in_lem}

pub routes_length : (job : Job) (stretch : List ℕ) → length (routes_in job stretch) ≡ job.count
unfolding routes_in
routes_length job stretch = length-map (range 0 job.count) (route_in job.horizon stretch) ∙ range_length 0 job.count

module _ (job : Job) where
  -- a route, where it stands in the plans
  pub route_at : (plans : List ℕ) (x i : ℕ) → i < job.count → route_in job.horizon (stretch_at job plans x) i ≡ take (job.horizon + 1) (drop (x * plan_length job + i * (job.horizon + 1)) plans)
  unfolding route_in stretch_at
  route_at plans x i l =
      part_of_part (i * (job.horizon + 1)) (job.horizon + 1) (plan_length job) (drop (x * plan_length job) plans) (part_within i job.count (job.horizon + 1) l)
      ∙ ap (take (job.horizon + 1)) (drop-drop (i * (job.horizon + 1)) (x * plan_length job) plans)

  -- a stretch copied to the place of node n
  module _ (plans : List ℕ) (n : ℕ) (room : n * plan_length job + plan_length job ≤ length plans) (stretch : List ℕ) (long : length stretch ≡ plan_length job) where
    pub copied_here : stretch_at job (paste plans (n * plan_length job) stretch (plan_length job)) n ≡ stretch
    unfolding stretch_at
    copied_here =
        rw (paste-written plans (n * plan_length job) stretch (plan_length job) long room)
        (written_here plans (n * plan_length job) stretch (plan_length job) long room)

    pub copied_below : (y : ℕ) → y < n → stretch_at job (paste plans (n * plan_length job) stretch (plan_length job)) y ≡ stretch_at job plans y
    unfolding stretch_at
    copied_below y l =
        rw (paste-written plans (n * plan_length job) stretch (plan_length job) long room)
        (written_below plans (n * plan_length job) stretch (plan_length job) long room (y * plan_length job) (plan_length job) (part_within y n (plan_length job) l))

  -- a route written over that of carrier i in the stretch of node n
  module _ (plans : List ℕ) (n i : ℕ) (inside : i < job.count) (route : List ℕ) (long : length route ≡ job.horizon + 1) (room : n * plan_length job + plan_length job ≤ length plans) where
    -- where it stands
    abbrev place : ℕ
    place = n * plan_length job + i * (job.horizon + 1)

    abbrev now : List ℕ
    now = written plans place route (job.horizon + 1)

    fits : place + (job.horizon + 1) ≤ length plans
    fits = omega (arith, part_within i job.count (job.horizon + 1) inside)

    pub route_below : (y : ℕ) → y < n → stretch_at job (written plans (n * plan_length job + i * (job.horizon + 1)) route (job.horizon + 1)) y ≡ stretch_at job plans y
    unfolding stretch_at
    route_below y l =
        written_below plans place route (job.horizon + 1) long fits (y * plan_length job) (plan_length job) (omega (arith, part_within y n (plan_length job) l))

    route_here : route_in job.horizon (stretch_at job now n) i ≡ route
    route_here = route_at now n i inside ∙ written_here plans place route (job.horizon + 1) long fits

    route_other : (j : ℕ) → j < job.count → (j ≡ i → ⊥) → route_in job.horizon (stretch_at job now n) j ≡ route_in job.horizon (stretch_at job plans n) j
    route_other j l ne =
        route_at now n j l
        ∙ elim (dec_lt j i) [
          | yes h ↦ written_below plans place route (job.horizon + 1) long fits (n * plan_length job + j * (job.horizon + 1)) (job.horizon + 1) (omega (arith, part_within j i (job.horizon + 1) h))
          | no h ↦
              let up : i < j = omega (arith, h, ne) in
              ap (take (job.horizon + 1)) (written_above plans place route (job.horizon + 1) long fits (n * plan_length job + j * (job.horizon + 1)) (omega (arith, part_within i j (job.horizon + 1) up)))
        ]
        ∙ sym (route_at plans n j l)

    pub route-written : routes_in job (stretch_at job (written plans (n * plan_length job + i * (job.horizon + 1)) route (job.horizon + 1)) n) ≡ set (routes_in job (stretch_at job plans n)) i route
    route-written =
        ext_get_or [] (routes_in job (stretch_at job now n)) (set (routes_in job (stretch_at job plans n)) i route)
        (omega (arith, routes_length job (stretch_at job now n), routes_length job (stretch_at job plans n), length-set (routes_in job (stretch_at job plans n)) i route))
        (λ j l.
        let k : j < job.count = omega (arith, routes_length job (stretch_at job now n)) in
        route_in_lem job (stretch_at job now n) j k
        ∙ elim (ℕ_discrete j i) [
          | yes e ↦ rw e (route_here ∙ sym (get_or-set_same (routes_in job (stretch_at job plans n)) i route [] (omega (arith, routes_length job (stretch_at job plans n)))))
          | no ne ↦
              route_other j k ne
              ∙ sym (route_in_lem job (stretch_at job plans n) j k)
              ∙ sym (get_or-set_other (routes_in job (stretch_at job plans n)) i j route [] ne)
        ])
