-- Demand 3 about what `check_routes` and `check_meetings` ensure: r and m are any results that their contracts allow for one job
-- and one plan. The contracts are equations, so each law is the law of the definitions carried along them. Assumes nothing.
use Prim.Native.Nat.{ℕ}
use mathlib.Core.Path.{◌≡◌, sym, ap, ◌∙◌}
use mathlib.Core.List.{List}
use mathlib.Core.Logic.{◌↔◌}
use Rattle.job.specs.Job.{Job}
use Rattle.job.specs.Verdict.{IsAccepted}
use Rattle.routes.specs.Check.{RouteVerdict, route_verdict, route_told}
use Rattle.clashes.specs.Check.{MeetingVerdict, meeting_verdict, meeting_told}
use Rattle.checks.specs.Demand.{LawfulRoutes, Passes, Safe, SafeNear}
use Rattle.checks.proofs.Demand.{plan_check_exact, zero_is_lawful}
use Rattle.checks.proofs.Near.{safe_near}

module _ (job : Job) (plan : List ℕ) (r : RouteVerdict) (m : MeetingVerdict) (routes : r ≡ route_verdict job plan) (meetings : m ≡ meeting_verdict job plan) where
  route_number : (route_told r).number ≡ (route_told (route_verdict job plan)).number
  route_number = ap (λ (v : RouteVerdict). (route_told v).number) routes

  meeting_number_lem : (meeting_told m).number ≡ (meeting_told (meeting_verdict job plan)).number
  meeting_number_lem = ap (λ (v : MeetingVerdict). (meeting_told v).number) meetings

  -- for an accepted job and lawful routes both say 0 exactly when the plan is safe
  pub both_zero_exact : IsAccepted job → LawfulRoutes job plan → (((route_told r).number ≡ 0) × ((meeting_told m).number ≡ 0)) ↔ Safe job plan
  both_zero_exact accepted law =
      let exact = plan_check_exact job plan accepted law in (
        λ z. exact.0 (record { routes = sym route_number ∙ z.0; meetings = sym meeting_number_lem ∙ z.1 }),
        λ s. let p : Passes job plan = exact.1 s in (route_number ∙ p.routes, meeting_number_lem ∙ p.meetings),
      )

  -- and with the word 'neighbouring' in the collision
  pub both_zero_exact_near : IsAccepted job → LawfulRoutes job plan → (((route_told r).number ≡ 0) × ((meeting_told m).number ≡ 0)) ↔ SafeNear job plan
  both_zero_exact_near accepted law =
      let exact = both_zero_exact accepted law in
      let same = safe_near job plan law in
      (λ z. same.0 (exact.0 z), λ s. exact.1 (same.1 s))

  -- where the route check says 0, the meeting check says 0 exactly when the plan is safe
  pub meeting_zero_exact : IsAccepted job → (route_told r).number ≡ 0 → ((meeting_told m).number ≡ 0) ↔ Safe job plan
  meeting_zero_exact accepted z =
      let exact = both_zero_exact accepted (zero_is_lawful job plan (sym route_number ∙ z)).1 in
      (λ n. exact.0 (z, n), λ s. (exact.1 s).1)

  -- and a 0 of both says that the job is accepted, the routes are lawful and the plan is safe
  pub both_zero_safe : (route_told r).number ≡ 0 → (meeting_told m).number ≡ 0 → IsAccepted job × LawfulRoutes job plan × Safe job plan
  both_zero_safe z n =
      let (accepted, law) = zero_is_lawful job plan (sym route_number ∙ z) in
      (accepted, law, (both_zero_exact accepted law).0 (z, n))
