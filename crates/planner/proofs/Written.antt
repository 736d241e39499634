-- What is told of an end and written out, and the tables cleared: the routes of a node, joined, are its stretch, and the tables cleared are
-- those at entry cleared, since no step touched what lies past their least lengths. Assumes nothing.
use Prim.Native.Nat.{ℕ, ◌+◌, ◌*◌, ◌≤◌}
use native.Mathlib.Omega.{arith}
use mathlib.Core.Path.{◌≡◌, refl, sym, ap, ◌∙◌}
use mathlib.Core.List.{List, ◌++◌}
use lib.ListN.{length, take, drop, length-take, length-drop}
use Rattle.lists.specs.Lists.{each}
use Rattle.lent.proofs.Keeping.{zeroed_same}
use Rattle.lent.specs.Lent.{zeroed}
use Rattle.job.specs.Job.{plan_length}
use Rattle.search.specs.Search.{Outcome}
use Rattle.tree.specs.Plan.{total}
use Rattle.tree.specs.Tree.{Node, node_sum, tree}
use Rattle.tables.specs.State.{routes_in, stretch_at, node_at}
use Rattle.tables.specs.Tables.{Tables, columns_length, plans_length, layers_length, worked_on, plan_written, with_plan}
use Rattle.tables.proofs.Costs.{routes_joined, total_in}
use Rattle.children.specs.declared.Task.{Task}
use Rattle.planner.specs.declared.End.{End}
use Rattle.planner.specs.declared.End.TheVariants.{Spent, Clear, Full as EndFull}
use Rattle.std.specs.Prelude.{Ok, Err}
use Rattle.planner.specs.declared.answer.Denial.TheVariants.{NoPlan, Full as DenialFull}
use Rattle.planner.specs.Answer.{Answer, searched}
use Rattle.children.specs.Written.{sum_in}
use Rattle.children.specs.Steps.{job_on, Ready, Kept}
use Rattle.planner.specs.Steps.{Placed, EndFact, EndPlaced, ToldFact, Cleared, RanFact}
use Rattle.planner.proofs.Cells.{stretch_inside}

-- ---- what is told

module _ (task : Task) (plans : List ℕ) where
  pub end_placed : (end : End) (x made : ℕ) → end ≡ Clear x made → EndPlaced task plans end → Placed task plans x
  unfolding EndPlaced
  end_placed end x made e p = let q : EndPlaced task plans (Clear x made) = rw e at p in q

  pub told_spent : (output : List ℕ) (end : End) (made : ℕ) → end ≡ Spent made → ToldFact task plans output output end (Err (NoPlan made))
  unfolding ToldFact
  told_spent output end made e = rw e (refl, refl)

  pub told_full : (output : List ℕ) (end : End) → end ≡ EndFull → ToldFact task plans output output end (Err (DenialFull task.capacity))
  unfolding ToldFact
  told_full output end e = rw e (refl, refl)

  stretch_long : (x : ℕ) → Placed task plans x → length (stretch_at (job_on task) plans x) ≡ plan_length (job_on task)
  unfolding stretch_at
  stretch_long x p =
      let inside : x * plan_length (job_on task) + plan_length (job_on task) ≤ length plans = stretch_inside task plans x p (plan_length (job_on task)) refl in
      simp (length-take, length-drop) (omega arith)

  sum_is_total : (x : ℕ) → sum_in task plans x ≡ total (job_on task) (routes_in (job_on task) (stretch_at (job_on task) plans x))
  unfolding sum_in stretch_at
  sum_is_total x = sym (total_in (job_on task) (stretch_at (job_on task) plans x))

  pub told_clear : (output output' : List ℕ) (end : End) (x made size sum : ℕ) → end ≡ Clear x made → Placed task plans x → size ≡ task.job.team.count * (task.job.horizon + 1) → sum ≡ sum_in task plans x → output' ≡ take size (drop (x * size) plans) ++ drop size output → ToldFact task plans output output' end (Ok (record { sum = sum; records = made }))
  unfolding ToldFact plan_written stretch_at
  told_clear output output' end x made size sum e p s h w =
      let joined : each (λ (r : List ℕ). r) (routes_in (job_on task) (stretch_at (job_on task) plans x)) ≡ stretch_at (job_on task) plans x = routes_joined (job_on task) (stretch_at (job_on task) plans x) (stretch_long x p) in
      let out : output' ≡ stretch_at (job_on task) plans x ++ drop (plan_length (job_on task)) output = rw s at w in
      rw e (ap (λ (n : ℕ). Ok (record { sum = n; records = made })) (h ∙ sum_is_total x), out ∙ ap (λ (l : List ℕ). l ++ drop (plan_length (job_on task)) output) (sym joined))

-- ---- the whole

module _ (task : Task) where
  -- the plans table has the stretch of the node that a search ended with
  pub ended_placed : (o : Outcome Node) (layers columns plans : List ℕ) (end : End) → Ready task layers → plans_length (job_on task) task.capacity ≤ length plans → EndFact (job_on task) task.capacity o columns plans end → EndPlaced task plans end
  unfolding EndFact EndPlaced
  ended_placed o layers columns plans (Spent made) ready room f = tt
  ended_placed o layers columns plans (Clear x made) ready room f =
      record { slips_most = ready.slips_most; horizon_most = ready.horizon_most; count_most = ready.count_most; capacity_most = ready.capacity_most; inside = f.0; long = room }
  ended_placed o layers columns plans EndFull ready room f = tt

  module _ (c p l c' p' l' c'' p'' l'' : List ℕ) (kept : Kept task c p l c' p' l') (cleared : Cleared task c' p' l' c'' p'' l'') (output : List ℕ) where
    abbrev before : Tables
    before = record { columns = c; plans = p; layers = l; output = output }

    abbrev after : List ℕ → Tables
    after output' = record { columns = c''; plans = p''; layers = l''; output = output' }

    left_worked : (output' : List ℕ) → after output' ≡ record { columns = zeroed (columns_length task.capacity) c; plans = zeroed (plans_length (job_on task) task.capacity) p; layers = zeroed (layers_length (job_on task)) l; output = output' }
    left_worked output' =
        let ec : c'' ≡ zeroed (columns_length task.capacity) c = cleared.columns_cleared ∙ zeroed_same _ c c' kept.columns_kept in
        let ep : p'' ≡ zeroed (plans_length (job_on task) task.capacity) p = cleared.plans_cleared ∙ zeroed_same _ p p' kept.plans_kept in
        let el : l'' ≡ zeroed (layers_length (job_on task)) l = cleared.layers_cleared ∙ zeroed_same _ l l' kept.layers_kept in
        rw (ec, ep, el) refl

    ran_of : (o : Outcome Node) (output' : List ℕ) (end : End) (answer : Answer) → EndFact (job_on task) task.capacity o c' p' end → ToldFact task p' output output' end answer → (answer ≡ (searched (job_on task) task.capacity before o).answer) × (after output' ≡ (searched (job_on task) task.capacity before o).tables)
    unfolding EndFact ToldFact searched worked_on with_plan node_sum node_at routes_in stretch_at total plan_written
    ran_of o output' (Spent made) answer f t = rw (f, t.1) (t.0, left_worked output)
    ran_of o output' (Clear x made) answer f t = rw (f.1, t.1) (t.0, left_worked _)
    ran_of o output' EndFull answer f t = rw (f, t.1) (t.0, left_worked output)

    pub ran : (output' : List ℕ) (end : End) (answer : Answer) → EndFact (job_on task) task.capacity (tree (job_on task) task.capacity) c' p' end → ToldFact task p' output output' end answer → RanFact (job_on task) task.capacity (record { columns = c; plans = p; layers = l; output = output }) answer (record { columns = c''; plans = p''; layers = l''; output = output' })
    ran output' end answer f t = let (a, b) = ran_of (tree (job_on task) task.capacity) output' end answer f t in record { told = a; left = b }
