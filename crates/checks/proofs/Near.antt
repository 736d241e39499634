-- Demand 3 with document 01's 'neighbouring' in the collision. On lawful routes the word changes nothing: a step stays or leads to a
-- neighbour, so cells that are exchanged are neighbours, or one cell, which is a meeting already. Assumes nothing.
use Prim.Native.Nat.{ℕ, ◌+◌, ◌≤◌, ◌<◌}
use native.Mathlib.Omega.{arith}
use mathlib.Core.Path.{◌≡◌, sym, subst, ◌∙◌}
use mathlib.Core.Logic.{◌↔◌, ◌⊎◌, inl, inr, ⊎_elim}
use mathlib.Core.List.{List}
use Rattle.hall.specs.Near.{Neighbours}
use Rattle.job.specs.Job.{Job, plan_cell}
use Rattle.job.specs.Verdict.{IsAccepted}
use Rattle.routes.specs.Route.{cell_of, route_in}
use Rattle.routes.proofs.Lawful.{lawful_step}
use Rattle.clashes.specs.Clash.{Meets}
use Rattle.clashes.specs.Check.{plan_travel}
use Rattle.clashes.proofs.Near.{survives_near, near_survives}
use Rattle.checks.specs.Demand.{LawfulRoutes, Passes, Safe, SafeNear}
use Rattle.checks.proofs.Demand.{route_cell, plan_check_exact}

module _ (job : Job) (plan : List ℕ) (law : LawfulRoutes job plan) where
  plan_step : (i t : ℕ) → i < job.count → t < job.horizon → (plan_cell job plan i (t + 1) ≡ plan_cell job plan i t) ⊎ Neighbours job.hall.width (plan_cell job plan i (t + 1)) (plan_cell job plan i t)
  plan_step i t li lt =
      subst (λ v. (v ≡ plan_cell job plan i t) ⊎ Neighbours job.hall.width v (plan_cell job plan i t)) (route_cell job plan law.long i li (t + 1) (omega arith))
      (subst (λ u. (cell_of (route_in job.horizon plan i) (t + 1) ≡ u) ⊎ Neighbours job.hall.width (cell_of (route_in job.horizon plan i) (t + 1)) u) (route_cell job plan law.long i li t (omega arith))
      (lawful_step job i (route_in job.horizon plan i) (law.lawful i li) t lt))

  -- i leaves at t what j comes to at t + 1, as both do in an exchange: the two are neighbours at t, or they meet there
  pub exchange_neighbours : (i j t : ℕ) → i < job.count → j < job.count → (i ≡ j → ⊥) → t + 1 ≤ job.horizon → plan_cell job plan i t ≡ plan_cell job plan j (t + 1) → Neighbours job.hall.width (plan_cell job plan i t) (plan_cell job plan j t) ⊎ Meets (plan_travel job plan) i j t 0
  exchange_neighbours i j t li lj ne inside there =
      let e : t + 0 ≡ t = omega arith in
      ⊎_elim
      (λ (same : plan_cell job plan j (t + 1) ≡ plan_cell job plan j t). inr (record { two = ne; near = omega arith; inside = omega arith; same = rw e (there ∙ same) }))
      (λ (close : Neighbours job.hall.width (plan_cell job plan j (t + 1)) (plan_cell job plan j t)). inl (subst (λ v. Neighbours job.hall.width v (plan_cell job plan j t)) (sym there) close))
      (plan_step j t lj (omega arith))

-- ---- demand 3

pub safe_near : (job : Job) (plan : List ℕ) → LawfulRoutes job plan → Safe job plan ↔ SafeNear job plan
safe_near job plan law = (
  survives_near (Neighbours job.hall.width) (plan_travel job plan) job.count,
  near_survives (Neighbours job.hall.width) (plan_travel job plan) job.count (plan_step job plan law),
)

pub plan_check_exact_near : (job : Job) (plan : List ℕ) → IsAccepted job → LawfulRoutes job plan → Passes job plan ↔ SafeNear job plan
plan_check_exact_near job plan accepted law =
    let exact = plan_check_exact job plan accepted law in
    let same = safe_near job plan law in
    (λ p. same.0 (exact.0 p), λ s. exact.1 (same.1 s))
