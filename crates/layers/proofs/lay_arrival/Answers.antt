-- The goal's level is worked out before the layer is laid, and then put there. Assumes nothing.
use native.Mathlib.Omega.{arith}
use Prim.Native.Nat.{◌+◌}
use lib.ListN.{get_or}
use Rattle.layers.proofs.StepLaws.{arrival_laid}
use Rattle.layers.proofs.lay_arrival.Goals as goal

pub returns : goal.returns
returns c =
    let a = c.args in
    arrival_laid a.goal a.level a.rest (λ v. get_or a.shuts.now (1280 + v) 0) a.layer.size a.layer.base a.slate.now a.layers.now c.requires.slate_clear (omega arith) (omega arith) (omega arith) c.max-there.result c.max-mark.result c.lay_rest.new.layers c.max-mark.ensures c.max-there.ensures c.lay_rest.ensures c.copy_layer.new.slate c.copy_layer.ensures
