-- Assumes nothing.
use native.Mathlib.Omega.{arith}
use mathlib.Core.Bool.{false, not}
use mathlib.Core.Path.{refl}
use lib.Dec.{eqb}
use Rattle.std.proofs.lemmas.Bool.{ne_eqb}
use Rattle.layers.proofs.StepLaws.{rests_moves, rests_not, rests_here}
use Rattle.layers.proofs.rest_end.Goals as goal

pub returns-then-this-ne0 : goal.returns-then-this-ne0
returns-then-this-ne0 g c = rests_moves (not (eqb g.row.MOVES 0)) c.args.goal c.args.t c.args.layer.size c.args.layer.base c.args.from c.args.slate.now c.args.layers.now c.requires.copied (omega arith) (rw (ne_eqb g.row.MOVES 0 c.if-this-ne0.true) refl)

pub returns-then-layers-layer : goal.returns-then-layers-layer
returns-then-layers-layer g c = rests_not (not (eqb g.row.MOVES 0)) c.args.goal c.args.t c.args.layer.size c.args.layer.base c.args.from c.args.slate.now c.args.layers.now c.requires.copied (omega arith) c.if-layers-layer.true

pub returns : goal.returns
returns g c = rw c.if-this-ne0.false (rests_here false c.args.goal c.args.t c.args.layer.size c.args.layer.base c.args.from c.args.slate.now c.args.layers.now c.requires.copied (omega arith) (omega arith) (omega arith) c.requires.sizes_fit.3 (omega arith) refl c.if-layers-layer.false)
