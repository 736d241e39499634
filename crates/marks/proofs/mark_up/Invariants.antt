-- `marks::mark_up` meets its contract: what is left to mark is the chain of the record at hand. Its own bar is marked, and the chain goes
-- on at the next ancestor that binds, whose number is smaller; the root's own bar is the last. Assumes nothing.
use mathlib.Core.Path.{◌≡◌}
use lib.ListN.{length}
use Rattle.routes.specs.Bars.{bars_for}
use Rattle.records.specs.Columns.{chain_of, Falls}
use Rattle.marks.proofs.More.{Left}
use Rattle.marks.proofs.mark_up.Given as goal

abbrev pub invariant-loop-at : goal.invariant-loop-at
invariant-loop-at l = Falls l.bound.capacity l.columns l.at × (length l.layers ≡ length l.initial.layers) × Left l.grid.width l.grid.height l.h (bars_for l.bound.carrier (chain_of l.bound.capacity l.columns l.bound.node)) (bars_for l.bound.carrier (chain_of l.bound.capacity l.columns l.at)) l.initial.layers l.layers l.bearing

abbrev pub decreases-loop-at : goal.decreases-loop-at
decreases-loop-at l = l.at
