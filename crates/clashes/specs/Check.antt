-- Document 01, 'Numbers given back': the meeting check. 'Both begin with checks 1 to 6 (no N there), then 7 if the plan is
-- shorter than m × (H + 1); bytes after that length are not read.' 'The meeting check compares any bytes as cells (for it an
-- exchange is a swap whether the two are neighbouring or not) and says 0, or 22 with the meeting or swap chosen by rule 5 and
-- which of the two it is.' P1: 16 'directly after 6 wherever 6 is given', and 7 with 'the length it needed'.
use Rattle.std.specs.Prelude.{true, false, List, ℕ, ltb, length, Result, Ok, Err}
use Rattle.job.specs.Job.{Job, plan_length, plan_cell}
use Rattle.job.specs.Told.{bare, fault, refusal}
use Rattle.job.specs.declared.Fault.{Fault}
use Rattle.job.specs.Verdict.{judge, check_refusal_told, if_accepted}
use Rattle.job.specs.declared.CheckRefusal.{CheckRefusal}
use Rattle.job.specs.declared.CheckRefusal.TheVariants.{Job as OfJob, Short}
use Rattle.clashes.specs.Clash.{Travel}
use Rattle.clashes.specs.Chosen.{chosen}
use Rattle.clashes.specs.declared.Clash.{Clash}
use Rattle.clashes.specs.declared.Clash.TheVariants.{Clear, Meeting, Swap}

-- how the carriers of a plan travel
abbrev pub plan_travel : Job → List ℕ → Travel
plan_travel job plan = record { at = plan_cell job plan; slip = job.slip_of; horizon = job.horizon }

unfoldable pub plan_clash : Job → List ℕ → Clash
plan_clash job plan = chosen (plan_travel job plan) job.count

-- what the meeting check says: the clash that rule 5 chooses, or what refuses the job or the plan's length
abbrev pub MeetingVerdict : Type 0
MeetingVerdict = Result Clash CheckRefusal

unfoldable pub compared : Job → List ℕ → MeetingVerdict
compared job plan = elim (ltb (length plan) (plan_length job)) [ true ↦ Err (Short (plan_length job)) | false ↦ Ok (plan_clash job plan) ]

unfoldable pub meeting_verdict : Job → List ℕ → MeetingVerdict
meeting_verdict job plan = if_accepted (judge job) (compared job plan) (λ r. Err (OfJob r))

-- the number and what is told, for each case
abbrev pub clash_told : Clash → Fault
clash_told Clear = refusal (bare 0)
clash_told (Meeting i j t d) = fault 22 i j t d 0
clash_told (Swap i j t) = fault 22 i j t 0 1

abbrev pub meeting_told : MeetingVerdict → Fault
meeting_told (Ok c) = clash_told c
meeting_told (Err r) = check_refusal_told r
