-- The first v bytes are marks. Assumes nothing.
use mathlib.Core.Bool.{true}
use Rattle.lent.specs.Made.{Made}
use Rattle.layers.specs.Fill.{mark_for}
use Rattle.layers.proofs.bar_others.Given as goal

abbrev pub invariant-loop-v : goal.invariant-loop-v
invariant-loop-v l = Made l.layer.base l.v (λ w byte. mark_for true l.last byte) l.initial.layers l.layers
