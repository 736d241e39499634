-- The first v bytes are laid. Assumes nothing.
use Prim.Native.Nat.{◌+◌, max}
use lib.ListN.{get_or}
use Rattle.lent.specs.Made.{Made}
use Rattle.layers.proofs.lay_rest.Given as goal

abbrev pub invariant-loop-v : goal.invariant-loop-v
invariant-loop-v l = Made l.layer.base l.v (λ w byte. max l.rest (max byte (get_or l.shuts (1280 + w) 0))) l.initial.layers l.layers
