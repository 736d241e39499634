-- The loop's invariant: the total is that of the first i routes, each a part of the stretch. Assumes nothing.
use mathlib.Core.Path.{◌≡◌}
use Rattle.lists.specs.Lists.{sum_to}
use Rattle.tables.proofs.Costs.{cost_in}
use Rattle.tables.proofs.sum_of.Given as goal

abbrev pub invariant-loop-i : goal.invariant-loop-i
invariant-loop-i l = l.total ≡ sum_to l.i (cost_in l.h l.team.goals l.stretch)
