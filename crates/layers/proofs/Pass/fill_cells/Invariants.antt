-- The first v cells of the layer are made. Assumes nothing.
use mathlib.Core.Bool.{not}
use lib.Dec.{eqb}
use Rattle.layers.proofs.LayerLaws.{Filling}
use Rattle.layers.proofs.Pass.fill_cells.Given as goal

abbrev pub invariant-loop-v : goal.invariant-loop-v
invariant-loop-v g l = Filling (not (eqb g.row.MOVES 0)) l.self.crossing l.shuts l.self.width l.from l.layer.size l.layer.base l.initial.slate l.initial.layers l.slate l.layers l.v
