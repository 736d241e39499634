-- Each promise of specs/Promises.antt about the two checks, kept by ours: their contracts are equations with document 01's definitions, so
-- each law is the law of the definitions carried along them. Assumes nothing.
use Prim.Native.Nat.{ℕ, ◌+◌, ◌≤◌, ◌<◌}
use native.Mathlib.Omega.{arith}
use mathlib.Core.Path.{◌≡◌, refl, sym, ap, ◌∙◌}
use mathlib.Core.List.{List}
use mathlib.Core.Logic.{◌⊎◌, inl, inr, ◌↔◌}
use mathlib.Core.Option.{Option, none, some}
use lib.Dec.{T}
use lib.ListN.{length}
use borrow.Author.Tests.{lt-ltb}
use Rattle.lists.proofs.Tests.{is_true, is_false, of_true}
use Rattle.lists.proofs.Every.{every_member}
use Rattle.lists.proofs.Orders.{Ordered, ordered_rows, LeastFact, first_least}
use Rattle.lists.proofs.Passing.{FirstFact}
use Rattle.job.specs.Job.{Job, plan_length, plan_cell}
use Rattle.job.specs.Told.{bare, refusal}
use Rattle.job.specs.Verdict.{Verdict, verdict_told, judge, if_accepted, IsAccepted}
use Rattle.job.specs.declared.Fault.{Fault}
use Rattle.std.specs.Prelude.{Ok, Err, Some}
use Rattle.job.specs.declared.CheckRefusal.TheVariants.{Job as OfJob, Short}
use Rattle.job.proofs.Due.{checks_accept_exactly as exactly, check_due}
use Rattle.job.proofs.Refused.{refused_by, if_refused}
use Rattle.routes.specs.Check.{places, first_wrong_place, place_verdict, plan_verdict, route_verdict, route_told}
use Rattle.routes.specs.declared.Place.{Place}
use Rattle.clashes.specs.Check.{plan_travel, plan_clash, compared, meeting_verdict, meeting_told}
use Rattle.clashes.proofs.First.{chosen_right}
use Rattle.checks.specs.Demand.{LawfulRoutes, Passes}
use Rattle.checks.specs.First.{NoneWrong, FirstWrongPlace}
use Rattle.checks.proofs.Demand.{wrong, listed, WrongFact, wrong_fact, route_verdict_lem, meeting_verdict_lem, plan_check_exact, zero_is_lawful, zero_is_safe}
use Rattle.checks.proofs.Near.{plan_check_exact_near}
use Rattle.checks.proofs.Read.{route_reads_the_plan, meeting_reads_the_plan}
use Rattle.promises.specs.Promises.{CheckIsExact, CheckIsExactNear, PassIsSafe, ChecksRefuseFirst, ShortPlanIsSeven, PlanIsRead, FirstWrongTold, ChosenTold}
use Rattle.promises.specs.Ours.{OurRoutes, OurMeetings}

-- ---- demand 3

abbrev number : Fault → ℕ
number f = f.number

-- both say 0 exactly if the plan check passes
pub both_pass : (job : Job) (plan : List ℕ) (r m : Fault) → OurRoutes job plan r → OurMeetings job plan m → ((r.number ≡ 0) × (m.number ≡ 0)) ↔ Passes job plan
both_pass job plan r m routes meetings = (
  λ z. record { routes = ap number (sym routes) ∙ z.0; meetings = ap number (sym meetings) ∙ z.1 },
  λ p. (ap number routes ∙ p.routes, ap number meetings ∙ p.meetings),
)

pub check_is_exact : CheckIsExact OurRoutes OurMeetings
unfolding CheckIsExact
check_is_exact job plan r m routes meetings right lawful =
    let both = both_pass job plan r m routes meetings in
    let exact = plan_check_exact job plan ((exactly job).1 right) lawful in
    (λ z. exact.0 (both.0 z), λ s. both.1 (exact.1 s))

pub check_is_exact_near : CheckIsExactNear OurRoutes OurMeetings
unfolding CheckIsExactNear
check_is_exact_near job plan r m routes meetings right lawful =
    let both = both_pass job plan r m routes meetings in
    let exact = plan_check_exact_near job plan ((exactly job).1 right) lawful in
    (λ z. exact.0 (both.0 z), λ s. both.1 (exact.1 s))

pub pass_is_safe : PassIsSafe OurRoutes OurMeetings
unfolding PassIsSafe
pass_is_safe job plan r m routes meetings z n =
    let (accepted, lawful, safe) = zero_is_safe job plan ((both_pass job plan r m routes meetings).0 (z, n)) in
    ((exactly job).0 accepted, lawful, safe)

-- ---- what comes before

pub checks_refuse_first : ChecksRefuseFirst OurRoutes OurMeetings
unfolding ChecksRefuseFirst route_verdict meeting_verdict
checks_refuse_first job plan r m routes meetings not_right =
    let (cause, is) = refused_by (judge job) (λ e. not_right ((exactly job).0 e)) in
    let told = sym (ap (λ (v : Verdict). refusal (verdict_told v)) is) in (
      check_due job,
      routes ∙ ap route_told (if_refused (judge job) cause (plan_verdict job plan) (λ r. Err (OfJob r)) is) ∙ told,
      meetings ∙ ap meeting_told (if_refused (judge job) cause (compared job plan) (λ r. Err (OfJob r)) is) ∙ told,
    )

module _ (job : Job) (plan : List ℕ) (accepted : IsAccepted job) (short : length plan < plan_length job) where
  route_short : route_verdict job plan ≡ Err (Short (plan_length job))
  unfolding route_verdict plan_verdict if_accepted
  route_short = rw (accepted, plan_verdict, lt-ltb (length plan) (plan_length job) short)

  meeting_short : meeting_verdict job plan ≡ Err (Short (plan_length job))
  unfolding meeting_verdict compared if_accepted
  meeting_short = rw (accepted, compared, lt-ltb (length plan) (plan_length job) short)

pub short_plan_is_seven : ShortPlanIsSeven OurRoutes OurMeetings
unfolding ShortPlanIsSeven
short_plan_is_seven job plan r m routes meetings right short =
    let accepted = (exactly job).1 right in
    (routes ∙ ap route_told (route_short job plan accepted short), meetings ∙ ap meeting_told (meeting_short job plan accepted short))

pub plan_is_read : PlanIsRead OurRoutes OurMeetings
unfolding PlanIsRead
plan_is_read job plan r r' m m' routes routes' meetings meetings' = (
  routes ∙ ap route_told (route_reads_the_plan job plan) ∙ sym routes',
  meetings ∙ ap meeting_told (meeting_reads_the_plan job plan) ∙ sym meetings',
)

-- ---- the first wrong place: carrier by carrier, step by step

abbrev place : ℕ → ℕ → Place
place i t = record { carrier = i; step = t }

abbrev NotAfter : Place → Place → Type 0
NotAfter p q = (p.carrier ≤ q.carrier) × (p.carrier ≡ q.carrier → p.step ≤ q.step)

places_ordered : (m h : ℕ) → Ordered NotAfter (places m h)
unfolding places
places_ordered m h = ordered_rows NotAfter place (λ i. 0) (λ i. h + 1) (λ i t t' less. (omega arith, λ e. omega arith)) (λ i t i' t' less. (omega arith, λ e. absurd (omega arith))) m

module _ (job : Job) (plan : List ℕ) (accepted : IsAccepted job) (long : plan_length job ≤ length plan) where
  abbrev Found : Option Place → Type 0
  Found o = (LawfulRoutes job plan × NoneWrong job (plan_cell job plan) × (route_told (place_verdict o) ≡ refusal (bare 0))) ⊎ ((i t : ℕ) × FirstWrongPlace job (plan_cell job plan) i t × (route_told (place_verdict o) ≡ route_told (Ok (Some (record { carrier = i; step = t })))))

  found : (o : Option Place) → o ≡ first_wrong_place job (plan_cell job plan) → WrongFact job (plan_cell job plan) o
      → LeastFact (wrong job (plan_cell job plan)) NotAfter (places job.count job.horizon) o → Found o
  unfolding FirstFact LeastFact place_verdict NoneWrong
  found none e fact least =
      let zero : (route_told (route_verdict job plan)).number ≡ 0 = ap (λ v. (route_told v).number) (route_verdict_lem job plan accepted long ∙ ap place_verdict (sym e)) in
      let right : NoneWrong job (plan_cell job plan) =
      λ i t li lt. is_false (every_member (λ p. T (wrong job (plan_cell job plan) p) → ⊥) (places job.count job.horizon) fact (listed job (plan_cell job plan) i t li lt)) in
      inl ((zero_is_lawful job plan zero).1, right, refl)
  found (some p) e fact least =
      inr (
        p.carrier,
        p.step,
        record {
          carrier = fact.1.0;
          step = fact.1.1;
          wrong = is_true fact.0;
          first = λ j s lj ls w.
              every_member (λ q. T (wrong job (plan_cell job plan) q) → NotAfter p q) (places job.count job.horizon) least (listed job (plan_cell job plan) j s lj ls) (of_true w);
        },
        refl,
      )

  first_found : Found (first_wrong_place job (plan_cell job plan))
  unfolding first_wrong_place
  first_found =
      found (first_wrong_place job (plan_cell job plan)) refl (wrong_fact job (plan_cell job plan))
      (first_least (wrong job (plan_cell job plan)) NotAfter (λ p. (omega arith, λ e. omega arith)) (places job.count job.horizon) (places_ordered job.count job.horizon))

pub first_wrong_told : FirstWrongTold OurRoutes
unfolding FirstWrongTold
first_wrong_told job plan r routes right long =
    let accepted = (exactly job).1 right in
    rw (routes, route_verdict_lem job plan accepted long) (first_found job plan accepted long)

pub chosen_told : ChosenTold OurMeetings
unfolding ChosenTold plan_clash
chosen_told job plan m meetings right long = (
  plan_clash job plan,
  chosen_right (plan_travel job plan) job.count,
  meetings ∙ ap meeting_told (meeting_verdict_lem job plan ((exactly job).1 right) long),
)
