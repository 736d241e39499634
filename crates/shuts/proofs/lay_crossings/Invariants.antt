-- The loop's invariant: the bytes of the first m moves are made. Assumes nothing.
use lib.ListN.{length}
use Rattle.shuts.proofs.Moves.{crossing_mark, MovesMade}
use Rattle.shuts.proofs.lay_crossings.Given as goal

abbrev pub invariant-loop-m : goal.invariant-loop-m
invariant-loop-m l = MovesMade (crossing_mark l.floor l.digits) (length l.digits) l.m l.initial.shuts l.shuts
