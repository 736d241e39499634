-- What the functions below `add_child` and `make_root` have done, said about the tables before and after. No reader has to believe
-- these either.
use Rattle.std.specs.Prelude.{ℕ, ◌+◌, ◌*◌, ◌≤◌, ◌<◌, ◌≡◌, Bool, true, false, List, [], length, get_or}
use Rattle.std.proofs.Math.Option.{none, some}
use Rattle.lent.specs.Lent.{SameFrom}
use Rattle.job.specs.Job.{Job}
use Rattle.routes.specs.Bars.{Barred}
use Rattle.routes.specs.declared.Bar.{Bar}
use Rattle.marks.specs.Post.{Layered}
use Rattle.writer.specs.Write.{read_route}
use Rattle.tree.specs.Tree.{route_under, free_routes}
use Rattle.tables.specs.State.{routes_in, stretch_at}
use Rattle.tables.specs.Post.{Room, BarFits, Recorded}
use Rattle.tables.specs.Tables.{plans_length, layers_length}
use Rattle.children.specs.declared.Task.{Task}
use Rattle.children.specs.Steps.{job_on}
use Rattle.children.specs.Written.{route_on, SoughtIn, SoughtFree, is_found, put_route, sum_in, copied_plans, root_plans, free_count, last_sought}

-- ---- one route

pub record RouteSought (task : Task) (columns : List ℕ) (node carrier : ℕ) (bar : Bar) (layers layers' : List ℕ) (found : Bool) : Type 0 where
  pub told : found ≡ is_found (route_on task columns node carrier bar)
  pub sought : SoughtIn task columns node carrier bar layers'
  pub layers_kept : SameFrom (layers_length (job_on task)) layers layers'

-- the layers of a carrier, from which its route may be read; the hall itself is not asked
pub record Readable (task : Task) (carrier : ℕ) (layers : List ℕ) : Type 0 where
  pub layered : Layered task.job.width task.job.height task.job.horizon layers
  pub started : get_or task.job.team.starts carrier 0 < task.job.width * task.job.height
  pub inside : carrier < task.job.team.count
  pub few : task.job.team.count ≤ 8

-- the route that they hold
abbrev pub route_read : Task → ℕ → List ℕ → List ℕ
route_read task carrier layers = read_route task.job.width task.job.height task.job.horizon layers (get_or task.job.team.starts carrier 0)

-- written over that of the carrier at node x
abbrev pub RoutePut : Task → List ℕ → ℕ → ℕ → List ℕ → List ℕ → Type 0
RoutePut task layers x carrier plans plans' = plans' ≡ put_route (job_on task) plans x carrier (some (route_read task carrier layers))

-- ---- a child

-- a route may be read for the child of a node with one new bar, and a record is free for it
pub record ChildDue (task : Task) (layers columns plans : List ℕ) (node carrier : ℕ) (bar : Bar) (made : ℕ) : Type 0 where
  pub readable : Readable task carrier layers
  pub low : node < made
  pub room : Room task.capacity columns made
  pub fits : BarFits bar
  pub plans_long : made * (task.job.team.count * (task.job.horizon + 1)) + task.job.team.count * (task.job.horizon + 1) ≤ length plans

-- it has its parent's routes, but for the one that was read, and its record
pub record ChildMade (task : Task) (layers : List ℕ) (node : ℕ) (b : Barred) (made : ℕ) (columns plans columns' plans' : List ℕ) : Type 0 where
  pub put : plans' ≡ put_route (job_on task) (copied_plans (job_on task) plans node made) made b.carrier (some (route_read task b.carrier layers))
  pub recorded : Recorded task.capacity columns made node b.carrier b.bar (sum_in task plans' made) columns'

-- ---- the root's routes

-- that of carrier i, written if there is one
pub record FreeRoute (task : Task) (i : ℕ) (plans layers plans' layers' : List ℕ) (found : Bool) : Type 0 where
  pub told : found ≡ is_found (route_under (job_on task) [] i)
  pub put : plans' ≡ put_route (job_on task) plans 0 i (route_under (job_on task) [] i)
  pub sought : SoughtFree task i layers'
  pub layers_kept : SameFrom (layers_length (job_on task)) layers layers'

unfoldable pub FreeFact : Job → List ℕ → Bool → Type 0
FreeFact job plans' false = free_routes job 0 job.count ≡ none
FreeFact job plans' true = free_routes job 0 job.count ≡ some (routes_in job (stretch_at job plans' 0))

pub record FreeRoutes (task : Task) (plans layers plans' layers' : List ℕ) (found : Bool) : Type 0 where
  pub told : FreeFact (job_on task) plans' found
  pub routes : plans' ≡ root_plans (job_on task) plans (free_count (job_on task))
  pub sought : SoughtFree task (last_sought (job_on task)) layers'
  pub plans_kept : SameFrom (plans_length (job_on task) task.capacity) plans plans'
  pub layers_kept : SameFrom (layers_length (job_on task)) layers layers'
