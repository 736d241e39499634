-- A child that is due, call by call of the code: its parent's stretch lies below its own, which lies inside the plans, and each write keeps
-- their length. The route that was read is the best one, so what stands in the tables at the end is the child that the tree makes. Assumes
-- nothing.
use Prim.Native.Nat.{ℕ, ◌+◌, ◌*◌, ◌<◌}
use native.Mathlib.Omega.{arith}
use mathlib.Core.Path.{◌≡◌, refl, sym, ap, ◌∙◌}
use mathlib.Core.Bool.{Bool, true, false}
use mathlib.Core.List.{List}
use mathlib.Core.Option.{some}
use lib.ListN.{take, drop}
use lib.Seq.{paste}
use Rattle.lent.proofs.Keeping.{same_from}
use Rattle.job.specs.Job.{Job}
use Rattle.routes.specs.Bars.{Barred}
use Rattle.routes.specs.declared.Bar.{Bar}
use Rattle.records.specs.Columns.{is_bar}
use Rattle.tree.specs.Tree.{node_sum}
use Rattle.tables.specs.State.{node_at, Sound}
use Rattle.tables.specs.Post.{Room, BarFits, Fitting}
use Rattle.children.specs.declared.Task.{Task}
use Rattle.children.specs.declared.Grown.{Grown}
use Rattle.children.specs.declared.Grown.TheVariants.{Nothing, Made, Full}
use Rattle.children.specs.Steps.{job_on, Ready, Kept, ChildFact}
use Rattle.children.specs.Written.{route_on, put_route, sum_in, copied_plans, ChildWritten, ChildTables}
use Rattle.children.specs.Children.{RouteSought, RoutePut, ChildDue, ChildMade}
use Rattle.children.proofs.Keeping.{stretch_within, recorded_kept, ready_still}
use Rattle.children.proofs.Routing.{not_found, was_found}
use Rattle.children.proofs.Seeking.{readable, route_read_lem, sum_in_lem, sum_small}
use Rattle.children.proofs.Grows.{now_keeps, grown, not_grown, no_record}

-- ---- the child takes its record

module _ (task : Task) (layers columns plans : List ℕ) (node carrier : ℕ) (bar : Bar) (made : ℕ) (due : ChildDue task layers columns plans node carrier bar made) (size : ℕ) (long : size ≡ task.job.team.count * (task.job.horizon + 1)) where
  module _ (copied : List ℕ) (copy : copied ≡ paste plans (made * size) (take size (drop (node * size) plans)) size) (now : List ℕ) (put : RoutePut task layers made carrier copied now) (sum : ℕ) (total : sum ≡ sum_in task now made) where
    pub record_due : Room task.capacity columns made × Fitting node carrier bar sum
    record_due =
        let small = due.room.small in
        let s = sum_small task now made sum due.readable.few due.readable.layered.late total in
        (due.room, record { parent_fits = omega (arith, due.low, due.room.inside); carrier_fits = omega (arith, due.readable.inside, due.readable.few); bar_fits = due.fits; sum_fits = omega arith })

-- ---- no child, no record, or a child that is due

module _ (task : Task) (columns plans layers layers' : List ℕ) (node carrier : ℕ) (bar : Bar) (found : Bool) (sought : RouteSought task columns node carrier bar layers layers' found) where
  abbrev b : Barred
  b = record { carrier = carrier; bar = bar }

  layers_only : Kept task columns plans layers columns plans layers'
  layers_only = record { columns_kept = same_from _ columns; plans_kept = same_from _ plans; layers_kept = sought.layers_kept }

  -- what `add_child` promises
  abbrev Grew : ℕ → List ℕ → List ℕ → Grown → Type 0
  Grew made columns' plans' g =
      Kept task columns plans layers columns' plans' layers'
      × (ChildFact (job_on task) task.capacity node b made columns plans columns' plans' g × ChildTables task node b made columns plans columns' plans' layers' g)

  pub none_due : (made : ℕ) → found ≡ false → Grew made columns plans Nothing
  unfolding ChildWritten
  none_due made e = (
    layers_only,
    (not_grown (job_on task) task.capacity columns plans node carrier bar made (not_found (route_on task columns node carrier bar) (sym e ∙ sought.told)), record { sought = sought.sought; written = (refl, refl) }),
  )

  pub full_due : (made : ℕ) → found ≡ true → made ≡ task.capacity → Grew made columns plans Full
  unfolding ChildWritten
  full_due made e f =
      let (r, best) = was_found (route_on task columns node carrier bar) (sym e ∙ sought.told) in (
        layers_only,
        (no_record (job_on task) task.capacity columns plans node carrier bar made columns plans r best f, record { sought = sought.sought; written = (refl, refl) }),
      )

  module _ (made : ℕ) (ready : Ready task layers) (sound : Sound (job_on task) task.capacity columns plans made) (low : node < made) (inside : carrier < task.job.team.count) (fits : BarFits bar) (bars : is_bar bar ≡ true) (e : found ≡ true) (room : made ≡ task.capacity → ⊥) where
    abbrev job : Job
    job = job_on task

    free : made < task.capacity
    free = omega (arith, sound.made, room)

    ready' : Ready task layers'
    ready' = ready_still task layers layers' sought.layers_kept.long ready

    pub child_due : ChildDue task layers' columns plans node carrier bar made
    child_due =
        record {
          readable = readable task layers' carrier ready' inside;
          low = low;
          room = record { inside = free; small = ready.capacity_most; long = sound.columns_long };
          fits = fits;
          plans_long = omega (arith, stretch_within job task.capacity made free, sound.plans_long);
        }

    pub child_done : (columns' plans' : List ℕ) → ChildMade task layers' node b made columns plans columns' plans' → Grew made columns' plans' Made
    unfolding ChildWritten
    child_done columns' plans' child =
        let (r, best) = was_found (route_on task columns node carrier bar) (sym e ∙ sought.told) in
        let read = route_read_lem task columns node carrier bar layers' r ready' inside sought.sought best in
        let is : plans' ≡ put_route job (copied_plans job plans node made) made carrier (some r) = child.put ∙ ap (λ (q : List ℕ). put_route job (copied_plans job plans node made) made carrier (some q)) read in
        let sums = sum_in_lem task task.capacity columns' plans' made ∙ ap (λ (l : List ℕ). node_sum job (node_at job task.capacity columns' l made)) is in (
          record {
            columns_kept = recorded_kept task.capacity columns made node carrier bar (sum_in task plans' made) columns' child.recorded;
            plans_kept = rw is (now_keeps job task.capacity columns plans node carrier bar made sound low free inside bars r best);
            layers_kept = sought.layers_kept;
          },
          (
            rw is (grown job task.capacity columns plans node carrier bar made sound low free inside bars r best (sum_in task plans' made) columns' child.recorded sums),
            record {
              sought = sought.sought;
              written = (is ∙ ap (put_route job (copied_plans job plans node made) made carrier) (sym best), child.recorded);
            },
          ),
        )
