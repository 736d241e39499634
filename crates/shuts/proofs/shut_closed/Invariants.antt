-- The loop's invariant: of the bytes that tell the closed cells the first v are made. Assumes nothing.
use Rattle.lent.specs.Made.{Made}
use Rattle.shuts.proofs.Moves.{closed_mark}
use Rattle.shuts.proofs.shut_closed.Given as goal

abbrev pub invariant-loop-v : goal.invariant-loop-v
invariant-loop-v l = Made 1280 l.v (λ u x. closed_mark l.hall u) l.initial.shuts l.shuts
