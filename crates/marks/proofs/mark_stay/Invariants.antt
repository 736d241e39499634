-- `marks::mark_stay` meets its contract: steps first to t are marked, one more at each turn, and no other place has changed. Assumes nothing.
use Prim.Native.Nat.{◌+◌, ◌-◌, ◌*◌, ◌≤◌, max}
use Rattle.lent.specs.Lent.{SameFrom}
use Rattle.marks.proofs.Stays.{Stayed}
use Rattle.marks.proofs.mark_stay.Given as goal

abbrev pub invariant-loop-t : goal.invariant-loop-t
invariant-loop-t l = (l.first ≤ l.t) × (l.t ≤ max l.first (l.end + 1)) × Stayed l.size l.cell l.first l.t l.initial.layers l.layers × SameFrom ((l.h + 1) * l.size + (l.h + 1) * l.size) l.initial.layers l.layers

abbrev pub decreases-loop-t : goal.decreases-loop-t
decreases-loop-t l = l.end + 1 - l.t
