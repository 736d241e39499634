-- The first v cells of the layer are made. Assumes nothing.
use mathlib.Core.Bool.{not}
use lib.Dec.{eqb}
use native.Mathlib.Omega.{arith}
use Rattle.layers.proofs.LayerLaws.{filling_more}
use Rattle.layers.proofs.Pass.fill_cells.Goals as goal

pub loop-v-preserved : goal.loop-v-preserved
loop-v-preserved g c = let w = c.args.self.in_range in let small = c.args.layer.small in filling_more (not (eqb g.row.MOVES 0)) c.args.self.crossing c.args.shuts.now c.args.self.width c.args.from c.args.layer.size c.args.layer.base c.args.slate.now c.args.layers.now (omega arith) (omega arith) c.requires.1 (omega arith) (omega arith) (omega arith) c.loop-v.slate c.loop-v.layers c.loop-v.v c.loop-v.invariant c.loop-v-test.true c.put_level.new.slate c.put_level.new.layers c.put_level.ensures.0 c.put_level.ensures.1
