-- Document 01, 'Lent tables, for m carriers: record columns, 16-bit, at least 8 × N; plans, bytes, at least
-- N × m × (H + 1); layers, bytes, at least (H + 1) × width × height; output, at least m × (H + 1) bytes.' Document 02, P2: 'The layers
-- table needs twice its length.'
use Rattle.std.specs.Prelude.{ℕ, ◌+◌, ◌*◌, ◌≤◌, ◌<◌, List, [], ◌∷◌, ◌++◌, ltb, length, get_or, drop}
use Rattle.std.proofs.Math.Option.{Option}
use Rattle.hall.specs.Hall.{size}
use Rattle.lists.specs.Lists.{range, each, first_of}
use Rattle.lent.specs.Lent.{zeroed}
use Rattle.job.specs.Job.{Job, plan_length}
use Rattle.tree.specs.Plan.{Routes}

pub record Tables : Type 0 where
  pub columns : List ℕ
  pub plans : List ℕ
  pub layers : List ℕ
  pub output : List ℕ

abbrev pub columns_length : ℕ → ℕ
columns_length capacity = 8 * capacity

abbrev pub plans_length : Job → ℕ → ℕ
plans_length job capacity = capacity * plan_length job

abbrev pub layers_length : Job → ℕ
layers_length job = 2 * ((job.horizon + 1) * size job.hall)

-- the lent tables by number, in that order from 0: how long each is and how long it must be, in its own entries
abbrev pub lent_length : Tables → ℕ → ℕ
lent_length ts t = get_or (length ts.columns ∷ length ts.plans ∷ length ts.layers ∷ length ts.output ∷ []) t 0

abbrev pub needed_length : Job → ℕ → ℕ → ℕ
needed_length job capacity t = get_or (columns_length capacity ∷ plans_length job capacity ∷ layers_length job ∷ plan_length job ∷ []) t 0

-- answer 7: 'a lent table is too short'; P1: 'the first short table, in document 01's order'
unfoldable pub first_short : Job → ℕ → Tables → Option ℕ
first_short job capacity ts = first_of (λ t. ltb (lent_length ts t) (needed_length job capacity t)) (range 0 4)

-- in plain numbers: table t is too short, and none before it
pub record FirstShort (job : Job) (capacity : ℕ) (ts : Tables) (t : ℕ) : Type 0 where
  pub short : lent_length ts t < needed_length job capacity t
  pub first : (s : ℕ) → s < t → needed_length job capacity s ≤ lent_length ts s

-- none is: 'at least' so long
pub record LongTables (job : Job) (capacity : ℕ) (ts : Tables) : Type 0 where
  pub columns : columns_length capacity ≤ length ts.columns
  pub plans : plans_length job capacity ≤ length ts.plans
  pub layers : layers_length job ≤ length ts.layers
  pub output : plan_length job ≤ length ts.output

-- 'After 0, 8 and 9 the named least lengths of the first three tables are all zero and the rest unchanged.'
unfoldable pub worked_on : Job → ℕ → Tables → Tables
worked_on job capacity ts =
    record {
      columns = zeroed (columns_length capacity) ts.columns;
      plans = zeroed (plans_length job capacity) ts.plans;
      layers = zeroed (layers_length job) ts.layers;
      output = ts.output;
    }

-- 'Output changes only for 0: carrier by carrier, its cells for steps 0 to H, the rest unchanged.'
unfoldable pub plan_written : Job → Routes → List ℕ → List ℕ
plan_written job rs xs = each (λ r. r) rs ++ drop (plan_length job) xs

unfoldable pub with_plan : Job → Routes → Tables → Tables
with_plan job rs ts = record { columns = ts.columns; plans = ts.plans; layers = ts.layers; output = plan_written job rs ts.output }
