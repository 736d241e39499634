-- The root made: its record is written with no bar, then its routes, then the record again with their sum; so it is the tree's root.
-- Assumes nothing.
use Prim.Native.Nat.{ℕ, ◌+◌, ◌*◌, ◌≤◌}
use native.Mathlib.Omega.{arith}
use mathlib.Core.Path.{◌≡◌, refl, sym, ap, subst, ◌∙◌}
use mathlib.Core.Bool.{Bool, true, false}
use mathlib.Core.List.{List, [], ◌∷◌}
use lib.ListN.{length}
use Rattle.lists.specs.Lists.{range, each}
use Rattle.lent.proofs.Keeping.{same_then}
use Rattle.routes.specs.declared.Bar.TheVariants.{Free}
use Rattle.tree.specs.Tree.{root, root_of}
use Rattle.tables.specs.State.{node_at, live, Sound}
use Rattle.tables.specs.Tables.{plans_length}
use Rattle.tables.specs.Post.{Room, BarFits, Fitting, Recorded}
use Rattle.tables.proofs.Grown.{live_added, sound_added}
use Rattle.children.specs.declared.Task.{Task}
use Rattle.children.specs.Steps.{job_on, Ready, Kept, RootFact}
use Rattle.children.specs.Written.{sum_in, root_sum, RootTables}
use Rattle.children.specs.Children.{FreeFact, FreeRoutes}
use Rattle.children.proofs.Routing.{root_unbarred}
use Rattle.children.proofs.Seeking.{sum_in_lem, sum_small}
use Rattle.children.proofs.Keeping.{stretch_within, recorded_kept, recorded_again}

-- the root's record, before its routes are known and after
pub root_record : (capacity : ℕ) (columns : List ℕ) (sum : ℕ) → 1 ≤ capacity → capacity ≤ 1024 → 8 * capacity ≤ length columns → sum ≤ 512 → Room capacity columns 0 × Fitting 0 0 Free sum
unfolding BarFits
root_record capacity columns sum enough small long few =
    (record { inside = enough; small = small; long = long }, record { parent_fits = omega arith; carrier_fits = omega arith; bar_fits = tt; sum_fits = omega arith })

module _ (task : Task) (columns plans layers : List ℕ) (ready : Ready task layers) (columns-long : 8 * task.capacity ≤ length columns) (plans-long : plans_length (job_on task) task.capacity ≤ length plans) (first : List ℕ) (recorded : Recorded task.capacity columns 0 0 0 Free 0 first) where
  first_long : 8 * task.capacity ≤ length first
  first_long = omega (arith, recorded.long)

  module _ (plans' layers' : List ℕ) (found : Bool) (routes : FreeRoutes task plans layers plans' layers' found) where
    plans_enough : plans_length (job_on task) task.capacity ≤ length plans'
    plans_enough = omega (arith, plans-long, routes.plans_kept.long)

    first_kept : Kept task columns plans layers first plans' layers'
    first_kept =
        record {
          columns_kept = recorded_kept task.capacity columns 0 0 0 Free 0 first recorded;
          plans_kept = routes.plans_kept;
          layers_kept = routes.layers_kept;
        }

    pub not_rooted : found ≡ false → Kept task columns plans layers first plans' layers' × (RootFact (job_on task) task.capacity first plans' false × RootTables task columns plans first plans' layers' false)
    unfolding RootFact FreeFact root root_of root_sum
    not_rooted e =
        let none_free : FreeFact (job_on task) plans' false = subst (FreeFact (job_on task) plans') e routes.told in
        (first_kept, (ap root_of none_free, record { sought = routes.sought; routes = routes.routes; written = recorded }))

    pub root_room : 0 * (task.job.team.count * (task.job.horizon + 1)) + task.job.team.count * (task.job.horizon + 1) ≤ length plans'
    root_room = omega (arith, stretch_within (job_on task) task.capacity 0 ready.capacity_least, plans_enough)

    module _ (sum : ℕ) (total : sum ≡ sum_in task plans' 0) where
      pub sum_due : Room task.capacity first 0 × Fitting 0 0 Free sum
      sum_due =
          root_record task.capacity first sum ready.capacity_least ready.capacity_most first_long (sum_small task plans' 0 sum ready.count_most ready.horizon_most total)

      module _ (second : List ℕ) (recorded₂ : Recorded task.capacity first 0 0 0 Free sum second) where
        none_yet : Sound (job_on task) task.capacity first plans' 0
        none_yet =
            record {
              columns_long = first_long;
              plans_long = plans_enough;
              small = ready.capacity_most;
              made = omega arith;
              down = λ x k l. absurd (omega arith);
              sums = λ x l. absurd (omega arith);
            }

        second_kept : Kept task columns plans layers second plans' layers'
        second_kept =
            record {
              columns_kept = same_then (8 * task.capacity) columns first second first_kept.columns_kept (recorded_kept task.capacity first 0 0 0 Free sum second recorded₂);
              plans_kept = routes.plans_kept;
              layers_kept = routes.layers_kept;
            }

        one_node : live (job_on task) task.capacity second plans' 1 ≡ node_at (job_on task) task.capacity second plans' 0 ∷ []
        one_node =
            live_added (job_on task) task.capacity first plans' 0 none_yet 0 0 Free sum second recorded₂ plans' (λ y l. refl)
            ∙ (unfold live each range in refl)

        is_root : FreeFact (job_on task) plans' true → root (job_on task) ≡ node_at (job_on task) task.capacity second plans' 0 ∷ []
        unfolding FreeFact root root_of node_at
        is_root all = rw (all, root_unbarred task.capacity second recorded₂.bar_is) refl

        root_tables : RootTables task columns plans second plans' layers' true
        unfolding root_sum
        root_tables =
            record {
              sought = routes.sought;
              routes = routes.routes;
              written = recorded_again task.capacity columns 0 0 0 Free 0 first recorded 0 0 Free (sum_in task plans' 0) second (rw total at recorded₂);
            }

        pub rooted : found ≡ true → Kept task columns plans layers second plans' layers' × (RootFact (job_on task) task.capacity second plans' true × RootTables task columns plans second plans' layers' true)
        unfolding RootFact
        rooted e =
            let all : FreeFact (job_on task) plans' true = subst (FreeFact (job_on task) plans') e routes.told in
            let sums = total ∙ sum_in_lem task task.capacity second plans' 0 in
            (second_kept, ((sound_added (job_on task) task.capacity first plans' 0 none_yet 0 0 Free sum second recorded₂ plans' (λ y l. refl) ready.capacity_least (λ l. l) refl sums, one_node ∙ sym (is_root all), rw (is_root all) refl), root_tables))
