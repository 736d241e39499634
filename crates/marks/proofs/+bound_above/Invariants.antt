-- The recursion goes to the node's parent, whose number is smaller.
use Rattle.marks.proofs.+bound_above.Given as goal

abbrev pub decreases-bound_above : goal.decreases-bound_above
decreases-bound_above l = l.node
