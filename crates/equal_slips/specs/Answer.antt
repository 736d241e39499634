-- Document 01, 'Numbers given back', 0 to 9, with P1's 16, and what every lent table holds afterwards, with one k for all carriers. The
-- lengths of the tables and what becomes of them are crate tables': no slip is read in them.
use Rattle.std.specs.Prelude.{ℕ, Ok, Err}
use Rattle.std.proofs.Math.Option.{Option, none, some}
use Rattle.job.specs.Job.{wrong_capacity}
use Rattle.job.specs.Verdict.{if_accepted}
use Rattle.search.specs.Search.{Outcome, done, full}
use Rattle.tree.specs.Tree.{Node, node_sum}
use Rattle.tables.specs.Tables.{Tables, needed_length, first_short, worked_on, with_plan}
use Rattle.planner.specs.Answer.{Result}
use Rattle.planner.specs.declared.answer.Denial.TheVariants.{Job as OfJob, Short, NoPlan, Full}
use Rattle.equal_slips.specs.Job.{OneJob, slipless, judge_by_k}
use Rattle.equal_slips.specs.Tree.{tree_by_k}

-- 0, 8 and 9. 'After 0, 8 and 9 the named least lengths of the first three tables are all zero and the rest unchanged. Output changes only
-- for 0'.
unfoldable pub searched_by_k : OneJob → ℕ → Tables → Outcome Node → Result
searched_by_k one capacity ts (done (some n) r) =
    record { answer = Ok (record { sum = node_sum (slipless one) n; records = r }); tables = with_plan (slipless one) n.routes (worked_on (slipless one) capacity ts) }
searched_by_k one capacity ts (done none r) = record { answer = Err (NoPlan r); tables = worked_on (slipless one) capacity ts }
searched_by_k one capacity ts (full r) = record { answer = Err (Full r); tables = worked_on (slipless one) capacity ts }

-- 7, P1: with the first short table 'and the length it needed'. 'After 1 to 7 no lent entry has changed.'
unfoldable pub if_long_by_k : OneJob → ℕ → Tables → Option ℕ → Result → Result
if_long_by_k one capacity ts none rest = rest
if_long_by_k one capacity ts (some t) rest = record { answer = Err (Short t (needed_length (slipless one) capacity t)); tables = ts }

unfoldable pub enough_by_k : OneJob → ℕ → Tables → Result
enough_by_k one capacity ts = if_long_by_k one capacity ts (first_short (slipless one) capacity ts) (searched_by_k one capacity ts (tree_by_k one capacity))

-- 'Checks 1 to 7 come before the search.'
unfoldable pub planned_by_k : OneJob → ℕ → Tables → Result
planned_by_k one capacity ts =
    if_accepted (judge_by_k (wrong_capacity capacity) one)
    (enough_by_k one capacity ts)
    (λ r. record { answer = Err (OfJob r); tables = ts })
