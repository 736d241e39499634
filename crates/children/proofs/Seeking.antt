-- A route sought, and read into its part of the plans, in the numbers of the code: a carrier's part starts where the node's stretch
-- does, and as many parts further on as carriers come before. Assumes nothing.
use Prim.Native.Nat.{ℕ, ◌+◌, ◌-◌, ◌*◌, ◌≤◌, ◌<◌}
use native.Mathlib.Omega.{arith}
use mathlib.Core.Path.{◌≡◌, refl, sym, ap, subst, ◌∙◌}
use mathlib.Core.Bool.{Bool}
use mathlib.Core.List.{List, ◌++◌}
use mathlib.Core.Option.{Option, none, some}
use Rattle.std.specs.Option.{is_some}
use lib.ListN.{length, get_or, take, drop}
use Rattle.lists.specs.Lists.{sum_to}
use Rattle.lent.specs.Lent.{SameFrom}
use Rattle.hall.specs.Hall.{size}
use Rattle.hall.specs.declared.Grid.{Grid}
use Rattle.job.specs.Job.{Job}
use Rattle.job.proofs.Accepted.{plan_small}
use Rattle.routes.specs.Route.{cost, route_in}
use Rattle.routes.specs.Best.{best_route}
use Rattle.routes.specs.declared.Bar.{Bar}
use Rattle.marks.specs.Marks.{bound_by}
use Rattle.marks.specs.Post.{Layered}
use Rattle.shuts.specs.Post.{lent_hall}
use Rattle.layers.specs.Layers.{route_from, sought_of}
use Rattle.layers.specs.Post.{SoughtRoute}
use Rattle.layers.specs.Sought.{Sought}
use Rattle.layers.specs.declared.Trip.{Trip}
use Rattle.writer.specs.Write.{read_route}
use Rattle.writer.proofs.ReadLaws.{read_is_best}
use Rattle.tables.specs.Tables.{layers_length}
use Rattle.tree.specs.Tree.{node_sum}
use Rattle.tables.specs.State.{stretch_at, node_at}
use Rattle.tables.proofs.Costs.{costs_at_most}
use Rattle.tables.proofs.Live.{node_sum_lem}
use Rattle.children.specs.declared.Task.{Task}
use Rattle.children.specs.Steps.{job_on, Ready}
use Rattle.children.specs.Written.{route_on, SoughtIn, is_found, put_route, sum_in}
use Rattle.children.specs.Children.{RouteSought, Readable, route_read, RoutePut}

-- ---- what is asked

-- 'twice its length': the two planes that the layers' functions name
pub two_planes : (job : Job) → (job.horizon + 1) * size job.hall + (job.horizon + 1) * size job.hall ≡ layers_length job
two_planes job = omega arith

-- what every use of the layers asks
layered : (task : Task) (layers : List ℕ) → Ready task layers → Layered task.job.width task.job.height task.job.horizon layers
layered task layers ready =
    record {
      some = ready.width_least;
      wide = ready.width_most;
      high = ready.height_most;
      late = ready.horizon_most;
      room = omega (arith, two_planes (job_on task), ready.layers_long);
    }

pub readable : (task : Task) (layers : List ℕ) (carrier : ℕ) → Ready task layers → carrier < task.job.team.count → Readable task carrier layers
readable task layers carrier ready inside =
    record { layered = layered task layers ready; started = ready.starts_inside carrier inside; inside = inside; few = ready.count_most }

-- ---- found or not

some_found : (goal : ℕ) (o : Option (List ℕ)) → is_some (sought_of goal o) ≡ is_found o
unfolding sought_of is_found
some_found goal none = refl
some_found goal (some r) = refl

-- ---- with the grid and the trip that the code makes

abbrev trip_of : Task → ℕ → Trip
trip_of task carrier = record { start = get_or task.job.team.starts carrier 0; goal = get_or task.job.team.goals carrier 0; horizon = task.job.horizon }

module _ (task : Task) (carrier : ℕ) (grid : Grid) (same-grid : (grid.width ≡ task.job.width) × (grid.height ≡ task.job.height)) (trip : Trip) (same-trip : trip ≡ trip_of task carrier) where
  -- ---- sought

  module _ (columns : List ℕ) (node : ℕ) (bar : Bar) (layers : List ℕ) where
    module _ (layers' : List ℕ) (s : Sought) (answer : SoughtRoute (lent_hall grid task.job.hall.now) (bound_by task.capacity columns node carrier bar) trip.start trip.goal trip.horizon layers layers' s) where
      abbrev goal : ℕ
      goal = get_or task.job.team.goals carrier 0

      -- the route as the layers' functions name it
      abbrev sought : Option (List ℕ)
      sought = route_from (job_on task).hall (bound_by task.capacity columns node carrier bar) (get_or task.job.team.starts carrier 0) goal task.job.horizon

      answered : SoughtRoute (job_on task).hall (bound_by task.capacity columns node carrier bar) (get_or task.job.team.starts carrier 0) goal task.job.horizon layers layers' s
      answered = rw (same-grid.0, same-grid.1, same-trip) at answer

      kept : SameFrom (layers_length (job_on task)) layers layers'
      kept = subst (λ (n : ℕ). SameFrom n layers layers') (two_planes (job_on task)) answered.kept

      pub route_sought : (found : Bool) → found ≡ is_some s → RouteSought task columns node carrier bar layers layers' found
      unfolding best_route
      route_sought found e = record { told = e ∙ ap is_some answered.told ∙ some_found goal sought; sought = answered.filled; layers_kept = kept }

  -- ---- read

  -- the stretch is as long as the code worked out
  module _ (layers : List ℕ) (reads : Readable task carrier layers) (size : ℕ) (long : size ≡ task.job.team.count * (task.job.horizon + 1)) (into : ℕ) (plans : List ℕ) (room : into * (task.job.team.count * (task.job.horizon + 1)) + task.job.team.count * (task.job.horizon + 1) ≤ length plans) where
    abbrev from : ℕ
    from = into * size + carrier * (task.job.horizon + 1)

    pub route_put : (ys : List ℕ) → ys ≡ read_route grid.width grid.height trip.horizon layers trip.start → RoutePut task layers into carrier plans (take from plans ++ (ys ++ drop (from + (task.job.horizon + 1) - from) (drop from plans)))
    unfolding put_route
    route_put ys e =
        let d : from + (task.job.horizon + 1) - from ≡ task.job.horizon + 1 = omega arith in
        rw (e, same-grid.0, same-grid.1, same-trip, d, long) refl

-- the route that is read off layers in which one was sought and found is that one
pub route_read_lem : (task : Task) (columns : List ℕ) (node carrier : ℕ) (bar : Bar) (layers r : List ℕ) → Ready task layers → carrier < task.job.team.count → SoughtIn task columns node carrier bar layers → route_on task columns node carrier bar ≡ some r → route_read task carrier layers ≡ r
unfolding best_route
route_read_lem task columns node carrier bar layers r ready inside filled best =
    read_is_best (job_on task).hall (bound_by task.capacity columns node carrier bar) (get_or task.job.team.starts carrier 0) (get_or task.job.team.goals carrier 0) task.job.horizon layers ready.horizon_most filled r (ready.starts_inside carrier inside) best

-- ---- the sum

pub sum_read : (task : Task) (size : ℕ) (plans : List ℕ) (x sum : ℕ) → size ≡ task.job.team.count * (task.job.horizon + 1) → sum ≡ sum_to task.job.team.count (λ i. cost (get_or task.job.team.goals i 0) (route_in task.job.horizon (take (x * size + size - x * size) (drop (x * size) plans)) i)) → sum ≡ sum_in task plans x
unfolding sum_in
sum_read task size plans x sum long e =
    let d : x * size + size - x * size ≡ size = omega arith in
    let f = rw d at e in
    rw long at f

module _ (task : Task) where
  pub sum_in_lem : (capacity : ℕ) (columns plans : List ℕ) (x : ℕ) → sum_in task plans x ≡ node_sum (job_on task) (node_at (job_on task) capacity columns plans x)
  unfolding sum_in
  sum_in_lem capacity columns plans x = sym (node_sum_lem (job_on task) capacity columns plans x ∙ (unfold stretch_at in refl))

pub sum_small : (task : Task) (plans : List ℕ) (x sum : ℕ) → task.job.team.count ≤ 8 → task.job.horizon ≤ 63 → sum ≡ sum_in task plans x → sum ≤ 512
unfolding sum_in
sum_small task plans x sum few near e =
    let l : task.job.team.count * (task.job.horizon + 1) ≤ 512 = plan_small few near in
    omega (arith, costs_at_most task.job.team.count task.job.horizon task.job.team.goals (take (task.job.team.count * (task.job.horizon + 1)) (drop (x * (task.job.team.count * (task.job.horizon + 1))) plans)))
