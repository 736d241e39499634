-- Document 01, 'Numbers given back', 0 to 9, with P1's 16, and what every lent table holds afterwards.
use Rattle.std.specs.Prelude.{ℕ, Ok, Err, Result as Either}
use Rattle.std.proofs.Math.Option.{Option, none, some}
use Rattle.job.specs.Job.{Job, wrong_capacity}
use Rattle.job.specs.Told.{counted, too_short}
use Rattle.job.specs.declared.Told.{Told}
use Rattle.job.specs.Verdict.{judge_with, refusal_told, if_accepted}
use Rattle.search.specs.Search.{Outcome, done, full}
use Rattle.tables.specs.Tables.{Tables, needed_length, first_short, worked_on, with_plan}
use Rattle.tree.specs.Tree.{Node, node_sum, tree}
use Rattle.planner.specs.declared.answer.Plan.{Plan}
use Rattle.planner.specs.declared.answer.Denial.{Denial}
use Rattle.planner.specs.declared.answer.Denial.TheVariants.{Job as OfJob, Short, NoPlan, Full}

-- what the planner says: a plan, or why there is none
abbrev pub Answer : Type 0
Answer = Either Plan Denial

-- the number and what is told, for each case
abbrev pub answer_told : Answer → Told
answer_told (Ok p) = counted 0 p.sum p.records
answer_told (Err (OfJob r)) = refusal_told r
answer_told (Err (Short t l)) = too_short t l
answer_told (Err (NoPlan r)) = counted 8 0 r
answer_told (Err (Full r)) = counted 9 0 r

-- what the planner says, and the tables as it leaves them
pub record Result : Type 0 where
  pub answer : Answer
  pub tables : Tables

unfoldable pub searched : Job → ℕ → Tables → Outcome Node → Result
searched job capacity ts (done (some n) r) = record { answer = Ok (record { sum = node_sum job n; records = r }); tables = with_plan job n.routes (worked_on job capacity ts) }
searched job capacity ts (done none r) = record { answer = Err (NoPlan r); tables = worked_on job capacity ts }
searched job capacity ts (full r) = record { answer = Err (Full r); tables = worked_on job capacity ts }

-- 'Checks 1 to 7 come before the search.' 'After 1 to 7 no lent entry has changed.'
-- P1: 7 tells the first short table 'and the length it needed'
unfoldable pub if_long : Job → ℕ → Tables → Option ℕ → Result → Result
if_long job capacity ts none rest = rest
if_long job capacity ts (some t) rest = record { answer = Err (Short t (needed_length job capacity t)); tables = ts }

unfoldable pub enough : Job → ℕ → Tables → Result
enough job capacity ts = if_long job capacity ts (first_short job capacity ts) (searched job capacity ts (tree job capacity))

unfoldable pub planned : Job → ℕ → Tables → Result
planned job capacity ts =
    if_accepted (judge_with (wrong_capacity capacity) job)
    (enough job capacity ts)
    (λ r. record { answer = Err (OfJob r); tables = ts })
