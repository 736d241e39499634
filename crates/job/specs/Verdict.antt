-- Document 01, 'Numbers given back', 1 to 6: 'If several apply, the lowest number is given.' P1: '16 shared goal, directly after 6'.
use Rattle.std.specs.Prelude.{ℕ, Bool, false, ◌||◌, ◌≡◌, Result, Ok, Err}
use Rattle.std.proofs.Math.Option.{Option, none, some}
use Rattle.lists.specs.Lists.{refuse_if}
use Rattle.hall.specs.Hall.{wrong_grid, wrong_bytes}
use Rattle.job.specs.Job.{Job, Pair, wrong_limits, wrong_count, first_wrong, first_shared}
use Rattle.job.specs.Told.{bare, named, refusal, plan_too_short}
use Rattle.job.specs.declared.Told.{Told}
use Rattle.job.specs.declared.Fault.{Fault}
use Rattle.job.specs.declared.Refusal.{Refusal}
use Rattle.job.specs.declared.Refusal.TheVariants.{WrongGrid, WrongBytes, WrongLimits, WrongCount, WrongCarrier, SharedStart, SharedGoal}
use Rattle.job.specs.declared.CheckRefusal.{CheckRefusal}
use Rattle.job.specs.declared.CheckRefusal.TheVariants.{Job as OfJob, Short}

-- what the checks say: the job is accepted, or what refuses it
abbrev pub Verdict : Type 0
Verdict = Result (Unit {0}) Refusal

-- the number and what is told, for each refusal and where the job is accepted
abbrev pub refusal_told : Refusal → Told
refusal_told WrongGrid = bare 1
refusal_told WrongBytes = bare 2
refusal_told WrongLimits = bare 3
refusal_told WrongCount = bare 4
refusal_told (WrongCarrier i) = named 5 i 0
refusal_told (SharedStart i j) = named 6 i j
refusal_told (SharedGoal i j) = named 16 i j

abbrev pub verdict_told : Verdict → Told
verdict_told (Ok u) = bare 0
verdict_told (Err r) = refusal_told r

-- a plan check's refusal: the job's, or 7 with the length that the plan needed
abbrev pub check_refusal_told : CheckRefusal → Fault
check_refusal_told (OfJob r) = refusal (refusal_told r)
check_refusal_told (Short l) = plan_too_short l

unfoldable pub carrier_verdict : Option ℕ → Verdict → Verdict
carrier_verdict none rest = rest
carrier_verdict (some i) rest = Err (WrongCarrier i)

-- two carriers that share, refused with their pair
unfoldable pub shared_verdict : (ℕ → ℕ → Refusal) → Option Pair → Verdict → Verdict
shared_verdict refused none rest = rest
shared_verdict refused (some p) rest = Err (refused p.one p.two)

-- the checks 1 to 6 and 16; the planner's third looks at N too, the plan checks' third does not
unfoldable pub judge_with : Bool → Job → Verdict
judge_with wrongN job =
    refuse_if (wrong_grid job.hall) (Err WrongGrid)
    (refuse_if (wrong_bytes job.hall) (Err WrongBytes)
    (refuse_if (wrong_limits job || wrongN) (Err WrongLimits)
    (refuse_if (wrong_count job) (Err WrongCount)
    (carrier_verdict (first_wrong job)
    (shared_verdict (λ i j. SharedStart i j) (first_shared job.start_of job.count)
    (shared_verdict (λ i j. SharedGoal i j) (first_shared job.goal_of job.count) (Ok tt)))))))

unfoldable pub judge : Job → Verdict
judge job = judge_with false job

-- the job passes them
abbrev pub IsAccepted : Job → Type 0
IsAccepted job = judge job ≡ Ok tt

-- what comes where the job is accepted, and what of a refusal
unfoldable pub if_accepted : {A : Type 0} → Verdict → A → (Refusal → A) → A
if_accepted (Ok u) go stop = go
if_accepted (Err r) go stop = stop r
