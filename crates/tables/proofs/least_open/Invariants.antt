-- The loop's invariant: `best` is the open node of least sum among the first `node`. Assumes nothing.
use Rattle.tables.specs.Post.{LeastFact}
use Rattle.tables.proofs.least_open.Given as goal

abbrev pub invariant-loop-node : goal.invariant-loop-node
invariant-loop-node l = LeastFact l.capacity l.columns l.node l.best
