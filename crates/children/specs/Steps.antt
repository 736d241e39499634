-- What each step of the planner's code has done, said about the tables before and after it. No reader has to believe these: the
-- contract of `plan` speaks of document 01's definitions alone.
use Rattle.std.specs.Prelude.{ℕ, ◌+◌, ◌*◌, ◌≤◌, ◌<◌, ◌≡◌, Bool, true, false, List, [], ◌++◌, length, get_or}
use Rattle.lent.specs.Lent.{SameFrom}
use Rattle.job.specs.Job.{Job}
use Rattle.job.specs.Team.{lent_job}
use Rattle.routes.specs.Bars.{Barred}
use Rattle.routes.specs.declared.Bar.{Bar}
use Rattle.records.specs.Columns.{is_bar}
use Rattle.tree.specs.Tree.{root, child}
use Rattle.tables.specs.Post.{BarFits}
use Rattle.tables.specs.State.{node_at, live, Sound}
use Rattle.tables.specs.Tables.{columns_length, plans_length, layers_length}
use Rattle.children.specs.declared.Task.{Task}
use Rattle.children.specs.declared.Barred.{Barred as NewBar}
use Rattle.children.specs.declared.Grown.{Grown}
use Rattle.children.specs.declared.Grown.TheVariants.{Nothing, Made, Full}

-- the job of a task
abbrev pub job_on : Task → Job
job_on task = lent_job task.job

-- what checks 1 to 7 have shown
pub record Ready (task : Task) (layers : List ℕ) : Type 0 where
  pub width_least : 1 ≤ task.job.width
  pub width_most : task.job.width ≤ 16
  pub height_least : 1 ≤ task.job.height
  pub height_most : task.job.height ≤ 16
  pub bytes_long : length task.job.hall.now ≡ task.job.width * task.job.height
  pub horizon_most : task.job.horizon ≤ 63
  pub count_least : 1 ≤ task.job.team.count
  pub count_most : task.job.team.count ≤ 8
  pub capacity_least : 1 ≤ task.capacity
  pub capacity_most : task.capacity ≤ 1024
  pub slips_most : (i : ℕ) → i < task.job.team.count → get_or task.job.team.slips i 0 ≤ 4
  pub starts_inside : (i : ℕ) → i < task.job.team.count → get_or task.job.team.starts i 0 < task.job.width * task.job.height
  pub goals_inside : (i : ℕ) → i < task.job.team.count → get_or task.job.team.goals i 0 < task.job.width * task.job.height
  pub layers_long : layers_length (job_on task) ≤ length layers

-- what no step touches: the lengths of the tables and what lies past their least lengths
pub record Kept (task : Task) (columns plans layers columns' plans' layers' : List ℕ) : Type 0 where
  pub columns_kept : SameFrom (columns_length task.capacity) columns columns'
  pub plans_kept : SameFrom (plans_length (job_on task) task.capacity) plans plans'
  pub layers_kept : SameFrom (layers_length (job_on task)) layers layers'

-- a bar of rule 6, whose numbers fit a record
abbrev pub BarSet : Bar → Type 0
BarSet bar = BarFits bar × (is_bar bar ≡ true)

-- the new bar of a child, as the tree has it
abbrev pub barred_of : NewBar → Barred
barred_of b = record { carrier = b.carrier; bar = b.bar }

-- one child of node x with bar b, after rule 7
unfoldable pub ChildFact : Job → ℕ → ℕ → Barred → ℕ → List ℕ → List ℕ → List ℕ → List ℕ → Grown → Type 0
ChildFact job capacity x b made columns plans columns' plans' Nothing =
    child job (node_at job capacity columns plans x) b ≡ []
ChildFact job capacity x b made columns plans columns' plans' Full =
    (made ≡ capacity) × (length (child job (node_at job capacity columns plans x) b) ≡ 1)
ChildFact job capacity x b made columns plans columns' plans' Made =
    (length (child job (node_at job capacity columns plans x) b) ≡ 1)
    × Sound job capacity columns' plans' (made + 1)
    × (live job capacity columns' plans' (made + 1) ≡ live job capacity columns plans made ++ child job (node_at job capacity columns plans x) b)
    × ((y : ℕ) → y < made → node_at job capacity columns' plans' y ≡ node_at job capacity columns plans y)

-- the root, made or not
unfoldable pub RootFact : Job → ℕ → List ℕ → List ℕ → Bool → Type 0
RootFact job capacity columns' plans' false = root job ≡ []
RootFact job capacity columns' plans' true =
    Sound job capacity columns' plans' 1 × (live job capacity columns' plans' 1 ≡ root job) × (length (root job) ≡ 1)
