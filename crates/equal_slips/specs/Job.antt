-- Document 01 as it stood before P3: 'A job is a hall, a list of carriers (each a record of start cell and goal cell, numbered from 0),
-- the delay bound k (0 to 4), the horizon H (0 to 63) and the capacity N'. The two checks have no N, so it stands beside.
-- What goes by k is defined in this crate and named so, as `judge_by_k`. What P3 does not touch is taken from the crates below.
use Rattle.std.specs.Prelude.{ℕ, ◌<◌, Bool, not, ◌||◌, List, ◌≡◌, ltb, get_or, Ok, Err}
use Rattle.std.proofs.Math.Option.{Option}
use Rattle.lists.specs.Lists.{range, first_of, refuse_if}
use Rattle.hall.specs.Hall.{Hall, wrong_grid, wrong_bytes, is_open}
use Rattle.job.specs.Job.{Job, most_horizon, wrong_count, first_shared}
use Rattle.job.specs.Verdict.{Verdict, carrier_verdict, shared_verdict}
use Rattle.job.specs.declared.Team.{Team}
use Rattle.job.specs.declared.Refusal.TheVariants.{WrongGrid, WrongBytes, WrongLimits, WrongCount, SharedStart, SharedGoal}

pub record OneJob : Type 0 where
  pub hall : Hall
  pub count : ℕ
  pub start_of : ℕ → ℕ
  pub goal_of : ℕ → ℕ
  pub delay : ℕ
  pub horizon : ℕ

-- the same job, each carrier with the slip that a function gives
abbrev pub with_slips : OneJob → (ℕ → ℕ) → Job
with_slips one slipOf =
    record {
      hall = one.hall;
      count = one.count;
      start_of = one.start_of;
      goal_of = one.goal_of;
      slip_of = slipOf;
      horizon = one.horizon;
    }

-- every slip is k: it does not matter what the function says of numbers that no carrier has
abbrev pub EverySlip : OneJob → (ℕ → ℕ) → Type 0
EverySlip one slipOf = (i : ℕ) → i < one.count → slipOf i ≡ one.delay

-- the same job for what reads no slip: starts, goals, routes, costs and lengths
abbrev pub slipless : OneJob → Job
slipless one = with_slips one (λ i. 0)

-- the job that a caller lent as numbers, hall bytes and the carriers by value: width, height, hall bytes, carriers, k, H
abbrev pub one_job_of : ℕ → ℕ → List ℕ → Team → ℕ → ℕ → OneJob
one_job_of width height bytes team k h =
    record {
      hall = record { width = width; height = height; bytes = bytes };
      count = team.count;
      start_of = λ i. get_or team.starts i 0;
      goal_of = λ i. get_or team.goals i 0;
      delay = k;
      horizon = h;
    }

-- 'the delay bound k (0 to 4)'
abbrev pub most_delay : ℕ
most_delay = 4

-- answer 3: 'k above 4, H above 63, or N is 0 or above 1,024'
unfoldable pub wrong_limits_by_k : OneJob → Bool
wrong_limits_by_k one = ltb most_delay one.delay || ltb most_horizon one.horizon

-- answer 5: 'a start or goal is outside the grid or closed'; told is 'first such carrier'
unfoldable pub wrong_ends : OneJob → ℕ → Bool
wrong_ends one i = not (is_open one.hall (one.start_of i)) || not (is_open one.hall (one.goal_of i))

unfoldable pub first_wrong_by_k : OneJob → Option ℕ
first_wrong_by_k one = first_of (wrong_ends one) (range 0 one.count)

-- 'If several apply, the lowest number is given.' P1: '16 shared goal, directly after 6'. The checks 1 to 6 and 16; the planner's third
-- looks at N too, the plan checks' third does not.
unfoldable pub judge_by_k : Bool → OneJob → Verdict
judge_by_k wrongN one =
    refuse_if (wrong_grid one.hall) (Err WrongGrid)
    (refuse_if (wrong_bytes one.hall) (Err WrongBytes)
    (refuse_if (wrong_limits_by_k one || wrongN) (Err WrongLimits)
    (refuse_if (wrong_count (slipless one)) (Err WrongCount)
    (carrier_verdict (first_wrong_by_k one)
    (shared_verdict (λ i j. SharedStart i j) (first_shared one.start_of one.count)
    (shared_verdict (λ i j. SharedGoal i j) (first_shared one.goal_of one.count) (Ok tt)))))))
