-- The plan check passes lawful routes exactly when they are safe: on them the route check finds no wrong place, and the meeting check
-- finds nothing exactly if no two carriers meet or swap, which is to survive every pattern of holds. Assumes nothing.
use Prim.Native.Nat.{ℕ, ◌+◌, ◌-◌, ◌*◌, ◌≤◌, ◌<◌}
use native.Mathlib.Omega.{arith}
use native.Mathlib.Nat.{mul-le-mul_right}
use mathlib.Core.Path.{◌≡◌, refl, sym, ap, ap₂, ◌∙◌}
use mathlib.Core.Logic.{◌↔◌, ◌⊎◌, inl, inr}
use mathlib.Core.Bool.{Bool, true, false, not, ◌&&◌, ◌||◌}
use mathlib.Core.List.{List, map, Memᴰ}
use mathlib.Core.Option.{Option as First, none, some}
use borrow.Author.Tests.{le-ltb, ltb-false}
use lib.Dec.{T, eqb, ltb}
use lib.ListN.{length, drop, length-take, length-drop}
use lib.Seq.{get_or-take, get_or-drop}
use Rattle.std.specs.Prelude.{None, Ok, Err}
use Rattle.lists.specs.Lists.{range, first_of}
use Rattle.lists.proofs.Tests.{is_false, of_false}
use Rattle.lists.proofs.Every.{every_member, member_every}
use Rattle.lists.proofs.Members.{member_each, each_member, member_map, map_member, member_range, range_member}
use Rattle.lists.proofs.Passing.{FirstFact, first_fact}
use Rattle.job.specs.Job.{Job, plan_length, plan_cell}
use Rattle.job.specs.Verdict.{Verdict, IsAccepted, judge, if_accepted, verdict_told}
use Rattle.job.specs.declared.Refusal.{Refusal}
use Rattle.job.proofs.Refused.{accepted_or_refused, zero_accepted, if_accepted_lem, if_refused}
use Rattle.job.specs.declared.CheckRefusal.TheVariants.{Job as OfJob, Short}
use Rattle.routes.specs.Route.{Lawful, cell_of, route_in}
use Rattle.routes.specs.Check.{RouteVerdict, places, wrong_move, wrong_arrival, wrong_at, first_wrong_place, place_verdict, plan_verdict, route_verdict, route_told}
use Rattle.routes.specs.declared.Place.{Place}
use Rattle.routes.proofs.Lawful.{right_everywhere_lawful}
use Rattle.clashes.specs.Check.{MeetingVerdict, plan_travel, plan_clash, compared, meeting_verdict, meeting_told, clash_told}
use Rattle.clashes.specs.declared.Clash.{Clash}
use Rattle.clashes.specs.declared.Clash.TheVariants.{Clear, Meeting, Swap}
use Rattle.clashes.proofs.Chosen.{clear_apart, apart_clear}
use Rattle.clashes.proofs.Holds.{apart_survives, survives_apart}
use Rattle.checks.specs.Demand.{LawfulRoutes, Passes, Safe}
use Rattle.checks.specs.First.{NoneWrong}

-- ---- whether a place is wrong depends on the cells at step 0, the step before and the step

module _ (job : Job) (i : ℕ) (f g : ℕ → ℕ) (t : ℕ) (first : f 0 ≡ g 0) (before : f (t - 1) ≡ g (t - 1)) (now : f t ≡ g t) where
  arrival_same : (b : Bool) → ◌≡◌ {A = Bool} (elim b [ true ↦ not (eqb (f 0) (job.start_of i)) | false ↦ wrong_move job.hall (f (t - 1)) (f t) ]) (elim b [ true ↦ not (eqb (g 0) (job.start_of i)) | false ↦ wrong_move job.hall (g (t - 1)) (g t) ])
  arrival_same true = ap (λ (c : ℕ). not (eqb c (job.start_of i))) first
  arrival_same false = ap₂ (wrong_move job.hall) before now

  pub wrong_same : wrong_at job i f t ≡ wrong_at job i g t
  unfolding wrong_at wrong_arrival
  wrong_same = ap₂ ◌||◌ (arrival_same (eqb t 0)) (ap (λ (c : ℕ). eqb t job.horizon && not (eqb c (job.goal_of i))) now)

-- ---- the route of a carrier, read off the bytes

module _ (job : Job) (plan : List ℕ) (long : plan_length job ≤ length plan) (i : ℕ) (li : i < job.count) where
  abbrev rows : ℕ
  rows = job.horizon + 1

  within : i * rows + rows ≤ length plan
  within =
      let a : (i + 1) * rows ≤ job.count * rows = mul-le-mul_right rows (omega arith) in
      let b : (i + 1) * rows ≡ i * rows + rows = omega arith in
      omega (arith, a, b, long)

  route_length : length (route_in job.horizon plan i) ≡ job.horizon + 1
  unfolding route_in
  route_length = simp (length-take, length-drop) (omega (arith, within))

  pub route_cell : (t : ℕ) → t ≤ job.horizon → cell_of (route_in job.horizon plan i) t ≡ plan_cell job plan i t
  unfolding route_in
  route_cell t l = get_or-take rows (drop (i * rows) plan) t 0 (omega arith) ∙ get_or-drop (i * rows) plan t 0

  -- a place is wrong in the route exactly where it is in the bytes: only cells up to H are looked at
  same_wrong : (t : ℕ) → t ≤ job.horizon → wrong_at job i (cell_of (route_in job.horizon plan i)) t ≡ wrong_at job i (plan_cell job plan i) t
  same_wrong t l =
      wrong_same job i (cell_of (route_in job.horizon plan i)) (plan_cell job plan i) t
      (route_cell 0 (omega arith)) (route_cell (t - 1) (omega arith)) (route_cell t l)

-- ---- the first wrong place

module _ (job : Job) (cell : ℕ → ℕ → ℕ) where
  abbrev pub wrong : Place → Bool
  wrong p = wrong_at job p.carrier (cell p.carrier) p.step

  abbrev row : ℕ → List Place
  row i = map (λ t. record { carrier = i; step = t }) (range 0 (job.horizon + 1))

  pub listed : (i t : ℕ) → i < job.count → t ≤ job.horizon → Memᴰ (record { carrier = i; step = t }) (places job.count job.horizon)
  unfolding places
  listed i t li lt =
      member_each row (range 0 job.count) (member_range {x = i} 0 job.count (omega arith) (omega arith))
      (member_map (λ t. record { carrier = i; step = t }) (range 0 (job.horizon + 1)) (member_range {x = t} 0 (job.horizon + 1) (omega arith) (omega arith)))

  pub placed : (p : Place) → Memᴰ p (places job.count job.horizon) → (p.carrier < job.count) × (p.step ≤ job.horizon)
  unfolding places
  placed p m =
      let (i, a, b) = each_member row (range 0 job.count) m in
      let (t, c, e) = map_member (λ t. record { carrier = i; step = t }) (range 0 (job.horizon + 1)) b in
      let x = range_member 0 job.count a in
      let y = range_member 0 (job.horizon + 1) c in
      let f : p.carrier ≡ i = ap (λ (q : Place). q.carrier) e in
      let g : p.step ≡ t = ap (λ (q : Place). q.step) e in
      (omega arith, omega arith)

  -- what the first wrong place tells, or that there is none
  abbrev pub WrongFact : First Place → Type 0
  WrongFact = FirstFact wrong (λ p. (p.carrier < job.count) × (p.step ≤ job.horizon)) (places job.count job.horizon)

  pub wrong_fact : WrongFact (first_of wrong (places job.count job.horizon))
  wrong_fact =
      first_fact wrong (λ p. (p.carrier < job.count) × (p.step ≤ job.horizon)) (places job.count job.horizon)
      (member_every (λ p. (p.carrier < job.count) × (p.step ≤ job.horizon)) (places job.count job.horizon) placed)

  says_none : (o : First Place) → WrongFact o → (route_told (place_verdict o)).number ≡ 0 → NoneWrong job cell
  unfolding FirstFact place_verdict NoneWrong
  says_none none fact e = λ i t li lt. is_false (every_member (λ p. T (wrong p) → ⊥) (places job.count job.horizon) fact (listed i t li lt))
  says_none (some p) fact e = absurd (let z : ◌≡◌ {A = ℕ} 21 0 = e in omega arith)

  none_says : (o : First Place) → WrongFact o → NoneWrong job cell → place_verdict o ≡ Ok None
  unfolding FirstFact place_verdict NoneWrong
  none_says none fact n = refl
  none_says (some p) fact n = let (li, lt) = fact.1 in absurd (of_false (n p.carrier p.step li lt) fact.0)

-- ---- the route check

module _ (job : Job) (plan : List ℕ) (accepted : IsAccepted job) (long : plan_length job ≤ length plan) where
  -- what is left of both checks where the job is accepted and the plan is long enough
  pub route_verdict_lem : route_verdict job plan ≡ place_verdict (first_wrong_place job (plan_cell job plan))
  unfolding route_verdict plan_verdict if_accepted
  route_verdict_lem = rw (accepted, plan_verdict, le-ltb (length plan) (plan_length job) long)

  pub meeting_verdict_lem : meeting_verdict job plan ≡ Ok (plan_clash job plan)
  unfolding meeting_verdict compared if_accepted
  meeting_verdict_lem = rw (accepted, compared, le-ltb (length plan) (plan_length job) long)

  -- the routes are lawful exactly if the route check says 0
  lawful_says_zero : ((i : ℕ) → i < job.count → Lawful job i (route_in job.horizon plan i)) → route_verdict job plan ≡ Ok None
  unfolding first_wrong_place NoneWrong
  lawful_says_zero law =
      route_verdict_lem
      ∙ none_says job (plan_cell job plan) (first_wrong_place job (plan_cell job plan)) (wrong_fact job (plan_cell job plan))
      (λ i t li lt.
      sym (same_wrong job plan long i li t lt)
      ∙ ((right_everywhere_lawful job i (route_in job.horizon plan i) accepted li).0 (law i li)).1 t lt)

  zero_says_lawful : (route_told (route_verdict job plan)).number ≡ 0 → (i : ℕ) → i < job.count → Lawful job i (route_in job.horizon plan i)
  unfolding first_wrong_place NoneWrong
  zero_says_lawful e i li =
      let n : NoneWrong job (plan_cell job plan) =
      says_none job (plan_cell job plan) (first_wrong_place job (plan_cell job plan)) (wrong_fact job (plan_cell job plan))
      (ap (λ (v : RouteVerdict). (route_told v).number) (sym route_verdict_lem) ∙ e)
      in
      (right_everywhere_lawful job i (route_in job.horizon plan i) accepted li).1
      (route_length job plan long i li, λ t lt. same_wrong job plan long i li t lt ∙ n i t li lt)

  -- ---- the meeting check

  clash_clear : (c : Clash) → (clash_told c).number ≡ 0 → c ≡ Clear
  clash_clear Clear e = refl
  clash_clear (Meeting i j t d) e = absurd (let z : ◌≡◌ {A = ℕ} 22 0 = e in omega arith)
  clash_clear (Swap i j t) e = absurd (let z : ◌≡◌ {A = ℕ} 22 0 = e in omega arith)

  zero_says_safe : (meeting_told (meeting_verdict job plan)).number ≡ 0 → Safe job plan
  unfolding plan_clash
  zero_says_safe e =
      apart_survives (plan_travel job plan) job.count
      (clear_apart (plan_travel job plan) job.count
      (clash_clear (plan_clash job plan) (ap (λ (v : MeetingVerdict). (meeting_told v).number) (sym meeting_verdict_lem) ∙ e)))

  safe_says_clear : Safe job plan → meeting_verdict job plan ≡ Ok Clear
  unfolding plan_clash
  safe_says_clear s =
      meeting_verdict_lem
      ∙ ap Ok (apart_clear (plan_travel job plan) job.count (survives_apart (plan_travel job plan) job.count s))

-- ---- demand 3

pub plan_check_exact : (job : Job) (plan : List ℕ) → IsAccepted job → LawfulRoutes job plan → Passes job plan ↔ Safe job plan
plan_check_exact job plan accepted law = (
  λ p. zero_says_safe job plan accepted law.long p.meetings,
  λ s. record {
    routes = ap (λ (v : RouteVerdict). (route_told v).number) (lawful_says_zero job plan accepted law.long law.lawful);
    meetings = ap (λ (v : MeetingVerdict). (meeting_told v).number) (safe_says_clear job plan accepted law.long s);
  },
)

-- a 0 of the route check, whatever was given to it, says that the job is accepted and the routes are lawful
zero_is_accepted : (job : Job) (plan : List ℕ) → (route_told (route_verdict job plan)).number ≡ 0 → IsAccepted job
unfolding route_verdict
zero_is_accepted job plan e = go (accepted_or_refused (judge job))
  where
    go : IsAccepted job ⊎ ((r : Refusal) × (judge job ≡ Err r)) → IsAccepted job
    go (inl accepted) = accepted
    go (inr refused) =
        zero_accepted (judge job)
        (ap (λ (v : Verdict). (verdict_told v).number) refused.1 ∙ ap (λ (v : RouteVerdict). (route_told v).number) (sym (if_refused (judge job) refused.0 (plan_verdict job plan) (λ r. Err (OfJob r)) refused.1)) ∙ e)

long_enough : (job : Job) (plan : List ℕ) → (route_told (plan_verdict job plan)).number ≡ 0 → plan_length job ≤ length plan
unfolding plan_verdict
long_enough job plan e = go (ltb (length plan) (plan_length job)) refl e
  where
    go : (b : Bool) → ltb (length plan) (plan_length job) ≡ b → (route_told (elim b [ true ↦ Err (Short (plan_length job)) | false ↦ place_verdict (first_wrong_place job (plan_cell job plan)) ])).number ≡ 0 → plan_length job ≤ length plan
    go true t e = absurd (let z : ◌≡◌ {A = ℕ} 7 0 = e in omega arith)
    go false t e = ltb-false (length plan) (plan_length job) t

pub zero_is_lawful : (job : Job) (plan : List ℕ) → (route_told (route_verdict job plan)).number ≡ 0 → IsAccepted job × LawfulRoutes job plan
unfolding route_verdict
zero_is_lawful job plan e =
    let accepted = zero_is_accepted job plan e in
    let long = long_enough job plan (ap (λ (v : RouteVerdict). (route_told v).number) (sym (if_accepted_lem (judge job) (plan_verdict job plan) (λ r. Err (OfJob r)) accepted)) ∙ e) in
    (accepted, record { long = long; lawful = zero_says_lawful job plan accepted long e })

-- 0 of both checks: the routes are lawful, and no pattern of holds brings two carriers together
pub zero_is_safe : (job : Job) (plan : List ℕ) → Passes job plan → IsAccepted job × LawfulRoutes job plan × Safe job plan
zero_is_safe job plan p =
    let (accepted, law) = zero_is_lawful job plan p.routes in
    (accepted, law, (plan_check_exact job plan accepted law).0 p)
