-- The loop's invariant: the cells below v are shut. Assumes nothing.
use Rattle.shuts.proofs.Each.{EachTo}
use Rattle.shuts.proofs.shut_each.Given as goal

abbrev pub invariant-loop-v : goal.invariant-loop-v
invariant-loop-v l = EachTo l.m l.first l.until l.stride l.initial.shuts l.v l.shuts
