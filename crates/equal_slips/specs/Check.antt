-- Document 01, 'Numbers given back': the two plan checks, with one k for all carriers. 'Both begin with checks 1 to 6 (no N there), then 7
-- if the plan is shorter than m × (H + 1); bytes after that length are not read.' P1: 16 'directly after 6 wherever 6 is given', and 7
-- with 'the length it needed'.
use Rattle.std.specs.Prelude.{ℕ, true, false, List, Ok, Err, ltb, length}
use Rattle.job.specs.Job.{plan_length, plan_cell}
use Rattle.job.specs.Verdict.{if_accepted}
use Rattle.job.specs.declared.CheckRefusal.TheVariants.{Job as OfJob, Short}
use Rattle.routes.specs.Check.{RouteVerdict, first_wrong_place, place_verdict}
use Rattle.clashes.specs.Check.{MeetingVerdict}
use Rattle.clashes.specs.declared.Clash.{Clash}
use Rattle.equal_slips.specs.Job.{OneJob, slipless, judge_by_k}
use Rattle.equal_slips.specs.Clash.{chosen_by_k}

-- 'The route check then says 0, or 21 with the first carrier, and its first step, at which the start, a move, a cell or the goal is
-- wrong'. No slip is read in that.
unfoldable pub plan_verdict_by_k : OneJob → List ℕ → RouteVerdict
plan_verdict_by_k one plan =
    elim (ltb (length plan) (plan_length (slipless one)))
    [ true ↦ Err (Short (plan_length (slipless one))) | false ↦ place_verdict (first_wrong_place (slipless one) (plan_cell (slipless one) plan)) ]

unfoldable pub route_verdict_by_k : OneJob → List ℕ → RouteVerdict
route_verdict_by_k one plan = if_accepted (judge_by_k false one) (plan_verdict_by_k one plan) (λ r. Err (OfJob r))

-- 'The meeting check compares any bytes as cells (for it an exchange is a swap whether the two are neighbouring or not) and says 0, or 22
-- with the meeting or swap chosen by rule 5 and which of the two it is.'
unfoldable pub plan_clash_by_k : OneJob → List ℕ → Clash
plan_clash_by_k one plan = chosen_by_k (plan_cell (slipless one) plan) one.delay one.horizon one.count

unfoldable pub compared_by_k : OneJob → List ℕ → MeetingVerdict
compared_by_k one plan =
    elim (ltb (length plan) (plan_length (slipless one)))
    [ true ↦ Err (Short (plan_length (slipless one))) | false ↦ Ok (plan_clash_by_k one plan) ]

unfoldable pub meeting_verdict_by_k : OneJob → List ℕ → MeetingVerdict
meeting_verdict_by_k one plan = if_accepted (judge_by_k false one) (compared_by_k one plan) (λ r. Err (OfJob r))
