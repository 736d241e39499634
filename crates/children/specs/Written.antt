-- What the lent tables hold after `add_child` and `make_root`, entry by entry: the layers of the last route that was sought, the routes
-- that were written, and the record. What lies past the least lengths is in `Kept`.
use Rattle.std.specs.Prelude.{ℕ, zero, suc, ◌+◌, ◌-◌, ◌*◌, min, ◌≡◌, Bool, true, false, List, [], ◌++◌, get_or, take, drop}
use Rattle.std.proofs.Math.Option.{Option, none, some}
use Rattle.std.proofs.Math.Seq.{paste}
use Rattle.lists.specs.Lists.{sum_to}
use Rattle.job.specs.Job.{Job, plan_length}
use Rattle.routes.specs.Route.{cost, route_in}
use Rattle.routes.specs.Bars.{Barred}
use Rattle.routes.specs.Best.{best_route}
use Rattle.routes.specs.declared.Bar.{Bar}
use Rattle.routes.specs.declared.Bar.TheVariants.{Free}
use Rattle.marks.specs.Marks.{bound_by}
use Rattle.layers.specs.Layers.{Filled}
use Rattle.tree.specs.Tree.{route_under}
use Rattle.tables.specs.Post.{Recorded}
use Rattle.children.specs.declared.Task.{Task}
use Rattle.children.specs.declared.Grown.{Grown}
use Rattle.children.specs.declared.Grown.TheVariants.{Nothing, Made, Full}
use Rattle.children.specs.Steps.{job_on}

-- ---- one route

-- the best route of a carrier at a node, with one new bar in front of those that bind it there
abbrev pub route_on : Task → List ℕ → ℕ → ℕ → Bar → Option (List ℕ)
route_on task columns node carrier bar = best_route (job_on task) carrier (bound_by task.capacity columns node carrier bar)

-- the layers hold what is wanted to read it off
abbrev pub SoughtIn : Task → List ℕ → ℕ → ℕ → Bar → List ℕ → Type 0
SoughtIn task columns node carrier bar layers =
    Filled (job_on task).hall (bound_by task.capacity columns node carrier bar) (get_or task.job.team.starts carrier 0) (get_or task.job.team.goals carrier 0) task.job.horizon layers

-- the same for its route without bars
abbrev pub SoughtFree : Task → ℕ → List ℕ → Type 0
SoughtFree task carrier layers = Filled (job_on task).hall [] (get_or task.job.team.starts carrier 0) (get_or task.job.team.goals carrier 0) task.job.horizon layers

unfoldable pub is_found : Option (List ℕ) → Bool
is_found none = false
is_found (some r) = true

-- the plans with a route, if there is one, written over that of carrier i of node x
unfoldable pub put_route : Job → List ℕ → ℕ → ℕ → Option (List ℕ) → List ℕ
put_route job plans x i none = plans
put_route job plans x i (some r) =
    take (x * plan_length job + i * (job.horizon + 1)) plans
    ++ (r ++ drop (job.horizon + 1) (drop (x * plan_length job + i * (job.horizon + 1)) plans))

-- the total of the costs of the routes in the stretch of node x
unfoldable pub sum_in : Task → List ℕ → ℕ → ℕ
sum_in task plans x =
    sum_to task.job.team.count
    (λ i. cost (get_or task.job.team.goals i 0) (route_in task.job.horizon (take (task.job.team.count * (task.job.horizon + 1)) (drop (x * (task.job.team.count * (task.job.horizon + 1))) plans)) i))

-- ---- a child

-- the stretch of node x, copied to that of the child
abbrev pub copied_plans : Job → List ℕ → ℕ → ℕ → List ℕ
copied_plans job plans x made = paste plans (made * plan_length job) (take (plan_length job) (drop (x * plan_length job) plans)) (plan_length job)

-- a child that is made has its parent's routes, but for the barred carrier's, and its record; otherwise nothing is written
unfoldable pub ChildWritten : Task → ℕ → Barred → ℕ → List ℕ → List ℕ → List ℕ → List ℕ → Grown → Type 0
ChildWritten task x b made columns plans columns' plans' Nothing = (columns' ≡ columns) × (plans' ≡ plans)
ChildWritten task x b made columns plans columns' plans' Full = (columns' ≡ columns) × (plans' ≡ plans)
ChildWritten task x b made columns plans columns' plans' Made =
    (plans' ≡ put_route (job_on task) (copied_plans (job_on task) plans x made) made b.carrier (route_on task columns x b.carrier b.bar))
    × Recorded task.capacity columns made x b.carrier b.bar (sum_in task plans' made) columns'

-- one child of node x with bar b: its route was sought, whatever became of it
pub record ChildTables (task : Task) (x : ℕ) (b : Barred) (made : ℕ) (columns plans columns' plans' layers' : List ℕ) (grown : Grown) : Type 0 where
  pub sought : SoughtIn task columns x b.carrier b.bar layers'
  pub written : ChildWritten task x b made columns plans columns' plans' grown

-- ---- the root

-- the plans with the routes of the first n carriers without bars, written one after the other
unfoldable pub root_plans : Job → List ℕ → ℕ → List ℕ
root_plans job plans zero = plans
root_plans job plans (suc i) = put_route job (root_plans job plans i) 0 i (route_under job [] i)

-- one more than the rest, where there is a route
unfoldable pub one_more_than : Option (List ℕ) → ℕ → ℕ
one_more_than none rest = 0
one_more_than (some r) rest = suc rest

-- how many of the n carriers from i on have a route without bars, before the first that has none
unfoldable pub free_from : Job → ℕ → ℕ → ℕ
free_from job i zero = 0
free_from job i (suc n) = one_more_than (route_under job [] i) (free_from job (suc i) n)

abbrev pub free_count : Job → ℕ
free_count job = free_from job 0 job.count

-- the first carrier that has none, otherwise the last: after it none is sought
abbrev pub last_sought : Job → ℕ
last_sought job = min (free_count job) (job.count - 1)

-- the sum in the root's record: 0 where no root is made
unfoldable pub root_sum : Task → List ℕ → Bool → ℕ
root_sum task plans' false = 0
root_sum task plans' true = sum_in task plans' 0

-- the root, made or not: its record is written in any case, and the routes up to the first carrier that has none
pub record RootTables (task : Task) (columns plans columns' plans' layers' : List ℕ) (made : Bool) : Type 0 where
  pub sought : SoughtFree task (last_sought (job_on task)) layers'
  pub routes : plans' ≡ root_plans (job_on task) plans (free_count (job_on task))
  pub written : Recorded task.capacity columns 0 0 0 Free (root_sum task plans' made) columns'
