-- The loop's invariant: the tables are in order, what lies past their least lengths is as it was, and what is left of the search from
-- them is what was left at the start. The measure is the records left and the open nodes. Assumes nothing.
use Prim.Native.Nat.{◌+◌, ◌-◌}
use mathlib.Core.Path.{◌≡◌}
use lib.ListN.{length}
use Rattle.tables.specs.State.{live, Sound}
use Rattle.children.specs.Steps.{job_on, Ready, Kept}
use Rattle.planner.specs.Steps.{tree_from}
use Rattle.planner.proofs.search_all.Given as goal

abbrev pub invariant-loop-node : goal.invariant-loop-node
invariant-loop-node l =
    Ready l.task l.layers
    × Sound (job_on l.task) l.task.capacity l.columns l.plans l.made
    × Kept l.task l.initial.columns l.initial.plans l.initial.layers l.columns l.plans l.layers
    × (tree_from (job_on l.task) l.task.capacity l.initial.columns l.initial.plans 1 ≡ tree_from (job_on l.task) l.task.capacity l.columns l.plans l.made)

abbrev pub decreases-loop-node : goal.decreases-loop-node
decreases-loop-node l = (l.task.capacity - l.made) + length (live (job_on l.task) l.task.capacity l.columns l.plans l.made)
