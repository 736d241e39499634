-- The layers from step t on are made. Assumes nothing.
use mathlib.Core.Bool.{not}
use lib.Dec.{eqb}
use Rattle.layers.proofs.PassLaws.{Passing}
use Rattle.layers.proofs.fill_back.Given as goal

abbrev pub invariant-loop-t : goal.invariant-loop-t
invariant-loop-t g l = Passing l.fn.grid l.floor (not (eqb g.row.MOVES 0)) l.crossing l.trip.goal l.plane l.last l.initial.layers l.layers l.shuts l.slate l.from l.t
