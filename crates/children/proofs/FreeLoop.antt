-- The routes of the root, one turn of the loop for each carrier: the first ones have a route without bars, and it is written. Assumes
-- nothing.
use Prim.Native.Nat.{ℕ, suc, ◌+◌, ◌-◌, ◌≤◌, ◌<◌}
use native.Mathlib.Omega.{arith}
use mathlib.Core.Path.{◌≡◌, refl, sym, ap, subst, ◌∙◌}
use mathlib.Core.Bool.{Bool, true, false}
use mathlib.Core.List.{List, []}
use mathlib.Core.Option.{some}
use lib.ListN.{length, get_or}
use Rattle.lent.proofs.Keeping.{same_from, same_then}
use Rattle.lent.specs.Lent.{SameFrom}
use Rattle.job.specs.Job.{Job}
use Rattle.routes.specs.Route.{route_in}
use Rattle.routes.specs.Bars.{bars_for}
use Rattle.routes.specs.declared.Bar.TheVariants.{Free}
use Rattle.records.specs.Columns.{bar_at}
use Rattle.marks.specs.Marks.{bound_by}
use Rattle.layers.proofs.SeekLaws.{free_filled}
use Rattle.tree.specs.Plan.{route_of}
use Rattle.tree.specs.Tree.{route_under}
use Rattle.tables.specs.State.{routes_in, stretch_at}
use Rattle.tables.specs.Tables.{plans_length, layers_length}
use Rattle.tables.proofs.Costs.{route_in_lem}
use Rattle.children.specs.declared.Task.{Task}
use Rattle.children.specs.Steps.{job_on, Ready}
use Rattle.children.specs.Written.{route_on, SoughtFree, is_found, put_route, root_plans, free_count, last_sought}
use Rattle.children.specs.Children.{RouteSought, RoutePut, FreeRoute, FreeFact, FreeRoutes}
use Rattle.children.proofs.Routing.{root_unbarred, free_route, not_found, was_found}
use Rattle.children.proofs.Keeping.{stretch_within, put_kept}
use Rattle.children.proofs.Seeking.{route_read_lem}
use Rattle.children.proofs.FreeRoutes.{free_all, free_lacks, free_count_all, free_count_lacks, free_more}

-- ---- the route of one carrier

module _ (task : Task) (columns plans layers layers' : List ℕ) (i : ℕ) (unbarred : bar_at task.capacity columns 0 ≡ Free) (found : Bool) (sought : RouteSought task columns 0 i Free layers layers' found) where
  same_route : route_under (job_on task) [] i ≡ route_on task columns 0 i Free
  same_route = free_route task.capacity columns unbarred (job_on task) i

  -- 'no bar' marks nothing
  free_sought : SoughtFree task i layers'
  unfolding bound_by bars_for
  free_sought = free_filled (job_on task).hall [] (get_or task.job.team.starts i 0) (get_or task.job.team.goals i 0) task.job.horizon layers' (rw (root_unbarred task.capacity columns unbarred) at sought.sought)

  pub none_free : found ≡ false → FreeRoute task i plans layers plans layers' false
  unfolding put_route
  none_free e =
      let told : false ≡ is_found (route_under (job_on task) [] i) = sym e ∙ sought.told ∙ ap is_found (sym same_route) in
      record {
        told = told;
        put = rw (not_found (route_under (job_on task) [] i) told) refl;
        sought = free_sought;
        layers_kept = sought.layers_kept;
      }

  pub one_free : (plans' : List ℕ) → Ready task layers' → i < task.job.team.count → found ≡ true → RoutePut task layers' 0 i plans plans' → FreeRoute task i plans layers plans' layers' true
  one_free plans' ready inside e put =
      let (r, best) = was_found (route_on task columns 0 i Free) (sym e ∙ sought.told) in
      let read = route_read_lem task columns 0 i Free layers' r ready inside sought.sought best in
      record {
        told = sym e ∙ sought.told ∙ ap is_found (sym same_route);
        put = put ∙ ap (put_route (job_on task) plans 0 i) (ap some read ∙ sym best ∙ sym same_route);
        sought = free_sought;
        layers_kept = sought.layers_kept;
      }

-- ---- the loop over the carriers

-- the first i carriers have a route without bars, and it is written; the layers are those of the last of them
pub record FreeSoFar (task : Task) (plans layers plans' layers' : List ℕ) (i : ℕ) : Type 0 where
  pub written : (j : ℕ) → j < i → route_under (job_on task) [] j ≡ some (route_of (routes_in (job_on task) (stretch_at (job_on task) plans' 0)) j)
  pub put : plans' ≡ root_plans (job_on task) plans i
  pub sought : 0 < i → SoughtFree task (i - 1) layers'
  pub plans_kept : SameFrom (plans_length (job_on task) task.capacity) plans plans'
  pub layers_kept : SameFrom (layers_length (job_on task)) layers layers'

module _ (task : Task) (plans layers : List ℕ) where
  abbrev job : Job
  job = job_on task

  pub free_start : FreeSoFar task plans layers plans layers 0
  unfolding root_plans
  free_start =
      record {
        written = λ j l. absurd (omega arith);
        put = refl;
        sought = λ l. absurd (omega arith);
        plans_kept = same_from _ plans;
        layers_kept = same_from _ layers;
      }

  module _ (enough : 1 ≤ task.capacity) (room : plans_length job task.capacity ≤ length plans) (i : ℕ) (inside : i < task.job.team.count) (plans₁ layers₁ plans₂ layers₂ : List ℕ) (found : Bool) (before : FreeSoFar task plans layers plans₁ layers₁ i) (turn : FreeRoute task i plans₁ layers₁ plans₂ layers₂ found) where
    room₁ : plans_length job task.capacity ≤ length plans₁
    room₁ = omega (arith, before.plans_kept.long)

    pub plans_still : SameFrom (plans_length job task.capacity) plans plans₂
    unfolding route_under
    plans_still =
        same_then (plans_length job task.capacity) plans plans₁ plans₂ before.plans_kept
        (subst (SameFrom (plans_length job task.capacity) plans₁) (sym turn.put)
        (put_kept job task.capacity 0 i enough inside plans₁ room₁ (bars_for i []) (route_under job [] i) refl))

    pub layers_still : SameFrom (layers_length job) layers layers₂
    layers_still = same_then (layers_length job) layers layers₁ layers₂ before.layers_kept turn.layers_kept

    put_again : plans₂ ≡ put_route job (root_plans job plans i) 0 i (route_under job [] i)
    put_again = turn.put ∙ ap (λ (l : List ℕ). put_route job l 0 i (route_under job [] i)) before.put

    pub free_turn : found ≡ true → FreeSoFar task plans layers plans₂ layers₂ (i + 1)
    unfolding root_plans
    free_turn e =
        let (r, is) = was_found (route_under job [] i) (sym e ∙ turn.told) in
        let next : suc i ≡ i + 1 = omega arith in
        let one_more : root_plans job plans (suc i) ≡ root_plans job plans (i + 1) = ap (root_plans job plans) next in
        let same : i ≡ i + 1 - 1 = omega arith in
        let put : plans₂ ≡ put_route job plans₁ 0 i (some r) = turn.put ∙ ap (put_route job plans₁ 0 i) is in
        record {
          written =
              rw put
              (free_more job plans₁ (omega (arith, stretch_within job task.capacity 0 enough, room₁)) i inside r is before.written);
          put = put_again ∙ one_more;
          sought = λ l. subst (λ (n : ℕ). SoughtFree task n layers₂) same turn.sought;
          plans_kept = plans_still;
          layers_kept = layers_still;
        }

    pub free_stop : found ≡ false → FreeRoutes task plans layers plans₂ layers₂ false
    unfolding FreeFact put_route
    free_stop e =
        let lacks = not_found (route_under job [] i) (sym e ∙ turn.told) in
        let count = free_count_lacks job (route_of (routes_in job (stretch_at job plans₁ 0))) i 0 task.job.team.count (omega arith) (omega arith) (λ j k l. before.written j l) lacks in
        let first : i ≡ free_count job = omega (arith, count) in
        let last : i ≡ last_sought job = omega (arith, first) in
        record {
          told = free_lacks job i 0 task.job.team.count (omega arith) (omega arith) lacks;
          routes = put_again ∙ rw lacks (ap (root_plans job plans) first);
          sought = subst (λ (n : ℕ). SoughtFree task n layers₂) last turn.sought;
          plans_kept = plans_still;
          layers_kept = layers_still;
        }

  pub free_done : 1 ≤ task.job.team.count → (i : ℕ) (plans' layers' : List ℕ) → i ≡ task.job.team.count → FreeSoFar task plans layers plans' layers' i → FreeRoutes task plans layers plans' layers' true
  unfolding FreeFact
  free_done one i plans' layers' all before =
      let count = free_count_all job (route_of (routes_in job (stretch_at job plans' 0))) 0 task.job.team.count (λ j k l. before.written j (omega arith)) in
      let full : i ≡ free_count job = omega (arith, count) in
      let last : i - 1 ≡ last_sought job = omega (arith, count) in
      record {
        told =
            free_all job (route_in task.job.horizon (stretch_at job plans' 0)) 0 task.job.team.count
            (λ j k l. before.written j (omega arith) ∙ ap some (route_in_lem job (stretch_at job plans' 0) j (omega arith)))
            ∙ (unfold routes_in in refl);
        routes = before.put ∙ ap (root_plans job plans) full;
        sought = subst (λ (n : ℕ). SoughtFree task n layers') last (before.sought (omega arith));
        plans_kept = before.plans_kept;
        layers_kept = before.layers_kept;
      }
