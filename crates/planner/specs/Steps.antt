-- What each step of the planner's code has done, said about the tables before and after it. No reader has to believe these: the
-- contract of `plan` speaks of document 01's definitions alone.
use Rattle.std.specs.Prelude.{ℕ, ◌+◌, ◌-◌, ◌*◌, ◌≤◌, ◌<◌, ◌≡◌, true, false, Ok, Err, Result, List, ◌++◌, length, get_or, set}
use Rattle.std.proofs.Math.Option.{Option, none, some}
use Rattle.lent.specs.Lent.{zeroed}
use Rattle.job.specs.Job.{Job, plan_length}
use Rattle.routes.specs.Bars.{Barred}
use Rattle.routes.specs.declared.Bar.TheVariants.{Stay, Cross}
use Rattle.search.specs.Search.{Outcome, done, full}
use Rattle.search.proofs.From.{run_from}
use Rattle.tree.specs.Tree.{Node, node_sum, node_clear, kids, child, tree}
use Rattle.tree.specs.Plan.{total}
use Rattle.tables.specs.State.{routes_in, stretch_at, node_at, live, Sound}
use Rattle.tables.specs.Tables.{Tables, columns_length, plans_length, layers_length, plan_written}
use Rattle.children.specs.declared.Task.{Task}
use Rattle.children.specs.Steps.{BarSet, job_on}
use Rattle.planner.specs.Answer.{Answer, searched}
use Rattle.planner.specs.declared.answer.Denial.{Denial}
use Rattle.planner.specs.declared.answer.Denial.TheVariants.{Short, NoPlan, Full as DenialFull}
use Rattle.planner.specs.declared.Bars.{Bars}
use Rattle.planner.specs.declared.Turn.{Turn}
use Rattle.planner.specs.declared.Turn.TheVariants.{Spent as TurnSpent, Clear as TurnClear, Full as TurnFull, On}
use Rattle.planner.specs.declared.End.{End}
use Rattle.planner.specs.declared.End.TheVariants.{Spent, Clear, Full as EndFull}

-- all numbers are small
pub record Limits (task : Task) : Type 0 where
  pub width_most : task.job.width ≤ 16
  pub height_most : task.job.height ≤ 16
  pub horizon_most : task.job.horizon ≤ 63
  pub count_most : task.job.team.count ≤ 8
  pub capacity_most : task.capacity ≤ 1024

-- node x has its stretch in the plans table, and all numbers are small
pub record Placed (task : Task) (plans : List ℕ) (x : ℕ) : Type 0 where
  pub slips_most : (i : ℕ) → i < task.job.team.count → get_or task.job.team.slips i 0 ≤ 4
  pub horizon_most : task.job.horizon ≤ 63
  pub count_most : task.job.team.count ≤ 8
  pub capacity_most : task.capacity ≤ 1024
  pub inside : x < task.capacity
  pub long : task.capacity * (task.job.team.count * (task.job.horizon + 1)) ≤ length plans

-- what is left of the search from the nodes in the tables
unfoldable pub tree_from : Job → ℕ → List ℕ → List ℕ → ℕ → Outcome Node
tree_from job capacity columns plans made = run_from (node_sum job) (node_clear job) (kids job) capacity (live job capacity columns plans made) made

-- new nodes `more` after `rest`: the next turn starts from them, or they need more records than there are
unfoldable pub GrownBy : Job → ℕ → ℕ → List Node → List Node → List ℕ → List ℕ → Turn → Type 0
GrownBy job capacity made rest more columns' plans' TurnSpent = ⊥
GrownBy job capacity made rest more columns' plans' (TurnClear x) = ⊥
GrownBy job capacity made rest more columns' plans' TurnFull = capacity < made + length more
GrownBy job capacity made rest more columns' plans' (On made') =
    (made' ≡ made + length more) × Sound job capacity columns' plans' made' × (live job capacity columns' plans' made' ≡ rest ++ more)

-- one child of node x
unfoldable pub OneFact : Job → ℕ → ℕ → Barred → ℕ → List ℕ → List ℕ → List ℕ → List ℕ → Turn → Type 0
OneFact job capacity x b made columns plans columns' plans' r =
    GrownBy job capacity made (live job capacity columns plans made) (child job (node_at job capacity columns plans x) b) columns' plans' r

-- two children of node x, in that order
unfoldable pub TwoFact : Job → ℕ → ℕ → Barred → Barred → ℕ → List ℕ → List ℕ → List ℕ → List ℕ → Turn → Type 0
TwoFact job capacity x one two made columns plans columns' plans' r =
    GrownBy job capacity made (live job capacity columns plans made)
    (child job (node_at job capacity columns plans x) one ++ child job (node_at job capacity columns plans x) two) columns' plans' r

-- the two bars of a split, with the carriers that they bind
abbrev pub stay_bars : (ℕ → ℕ) → ℕ → ℕ → ℕ → ℕ → Bars
stay_bars slip i j v e = record { one = record { carrier = i; bar = Stay v e (e + slip j) }; two = record { carrier = j; bar = Stay v e (e + slip i) } }

abbrev pub cross_bars : ℕ → ℕ → ℕ → ℕ → ℕ → Bars
cross_bars i j u v t = record { one = record { carrier = i; bar = Cross u v t }; two = record { carrier = j; bar = Cross v u t } }

pub record BarsFit (task : Task) (bars : Bars) : Type 0 where
  pub i_inside : bars.one.carrier < task.job.team.count
  pub j_inside : bars.two.carrier < task.job.team.count
  pub one_fits : BarSet bars.one.bar
  pub two_fits : BarSet bars.two.bar

-- node x closed, and two children of it
unfoldable pub PartFact : Job → ℕ → ℕ → Barred → Barred → ℕ → List ℕ → List ℕ → List ℕ → List ℕ → Turn → Type 0
PartFact job capacity x one two made columns plans columns' plans' r =
    GrownBy job capacity made (live job capacity (set columns (7 * capacity + x) 0) plans made)
    (child job (node_at job capacity columns plans x) one ++ child job (node_at job capacity columns plans x) two) columns' plans' r

-- node x looked at: it is clear, or its children come after the other open nodes
unfoldable pub SplitFact : Job → ℕ → ℕ → ℕ → List ℕ → List ℕ → List ℕ → List ℕ → Turn → Type 0
SplitFact job capacity x made columns plans columns' plans' TurnSpent = ⊥
SplitFact job capacity x made columns plans columns' plans' (TurnClear y) =
    (y ≡ x) × (node_clear job (node_at job capacity columns plans x) ≡ true) × (columns' ≡ columns) × (plans' ≡ plans)
SplitFact job capacity x made columns plans columns' plans' TurnFull =
    (node_clear job (node_at job capacity columns plans x) ≡ false)
    × GrownBy job capacity made (live job capacity (set columns (7 * capacity + x) 0) plans made) (kids job (node_at job capacity columns plans x)) columns' plans' TurnFull
SplitFact job capacity x made columns plans columns' plans' (On made') =
    (node_clear job (node_at job capacity columns plans x) ≡ false)
    × GrownBy job capacity made (live job capacity (set columns (7 * capacity + x) 0) plans made) (kids job (node_at job capacity columns plans x)) columns' plans' (On made')

-- a turn from `made` nodes
unfoldable pub TurnFact : Job → ℕ → ℕ → List ℕ → List ℕ → List ℕ → List ℕ → Turn → Type 0
TurnFact job capacity made columns plans columns' plans' TurnSpent = tree_from job capacity columns plans made ≡ done none made
TurnFact job capacity made columns plans columns' plans' (TurnClear x) =
    (x < made) × (columns' ≡ columns) × (plans' ≡ plans) × (tree_from job capacity columns plans made ≡ done (some (node_at job capacity columns plans x)) made)
TurnFact job capacity made columns plans columns' plans' TurnFull = tree_from job capacity columns plans made ≡ full capacity
TurnFact job capacity made columns plans columns' plans' (On made') =
    Sound job capacity columns' plans' made'
    × (tree_from job capacity columns plans made ≡ tree_from job capacity columns' plans' made')
    × ((capacity - made') + length (live job capacity columns' plans' made') < (capacity - made) + length (live job capacity columns plans made))

-- the end of a search that comes to `o`; a clear node is read off the tables at the end
unfoldable pub EndFact : Job → ℕ → Outcome Node → List ℕ → List ℕ → End → Type 0
EndFact job capacity o columns' plans' (Spent made) = o ≡ done none made
EndFact job capacity o columns' plans' (Clear x made) = (x < capacity) × (o ≡ done (some (node_at job capacity columns' plans' x)) made)
EndFact job capacity o columns' plans' EndFull = o ≡ full capacity

-- the plans and the output have room for what is told of an end
unfoldable pub EndPlaced : Task → List ℕ → End → Type 0
EndPlaced task plans (Spent made) = Unit {0}
EndPlaced task plans (Clear x made) = Placed task plans x
EndPlaced task plans EndFull = Unit {0}

-- what is told of an end, and the output
unfoldable pub ToldFact : Task → List ℕ → List ℕ → List ℕ → End → Answer → Type 0
ToldFact task plans output output' (Spent made) r = (r ≡ Err (NoPlan made)) × (output' ≡ output)
ToldFact task plans output output' (Clear x made) r =
    (r ≡ Ok (record { sum = total (job_on task) (routes_in (job_on task) (stretch_at (job_on task) plans x)); records = made }))
    × (output' ≡ plan_written (job_on task) (routes_in (job_on task) (stretch_at (job_on task) plans x)) output)
ToldFact task plans output output' EndFull r = (r ≡ Err (DenialFull task.capacity)) × (output' ≡ output)

-- the first three tables, cleared
pub record Cleared (task : Task) (columns plans layers columns' plans' layers' : List ℕ) : Type 0 where
  pub columns_cleared : columns' ≡ zeroed (columns_length task.capacity) columns
  pub plans_cleared : plans' ≡ zeroed (plans_length (job_on task) task.capacity) plans
  pub layers_cleared : layers' ≡ zeroed (layers_length (job_on task)) layers

-- the first short table that the definitions find, as the code tells it
unfoldable pub lengths_of : (ℕ → ℕ) → Option ℕ → Result (Unit {0}) Denial
lengths_of needed none = Ok tt
lengths_of needed (some t) = Err (Short t (needed t))

-- all tables are long enough
pub record Roomy (task : Task) (columns plans layers output : List ℕ) : Type 0 where
  pub columns_room : columns_length task.capacity ≤ length columns
  pub plans_room : plans_length (job_on task) task.capacity ≤ length plans
  pub layers_room : layers_length (job_on task) ≤ length layers
  pub output_room : plan_length (job_on task) ≤ length output

-- the search and what is left of it, by the definitions
pub record RanFact (job : Job) (capacity : ℕ) (before : Tables) (answer : Answer) (after : Tables) : Type 0 where
  pub told : answer ≡ (searched job capacity before (tree job capacity)).answer
  pub left : after ≡ (searched job capacity before (tree job capacity)).tables
