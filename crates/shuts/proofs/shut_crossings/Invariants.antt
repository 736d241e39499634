-- The loop's invariant: of the move's bytes the first v are made. Assumes nothing.
use Prim.Native.Nat.{◌*◌}
use Rattle.lent.specs.Made.{Made}
use Rattle.shuts.proofs.Moves.{crossing_mark}
use Rattle.shuts.proofs.shut_crossings.Given as goal

abbrev pub invariant-loop-v : goal.invariant-loop-v
invariant-loop-v l = Made (l.m * 256) l.v (λ u x. crossing_mark l.floor l.digits l.m u) l.initial.shuts l.shuts
