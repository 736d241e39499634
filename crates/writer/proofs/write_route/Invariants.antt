-- `writer::write_route` meets its contract: what is written, then the way that is read from here, is the route. Assumes nothing.
use Rattle.writer.proofs.WriteLaws.{Writing}
use Rattle.writer.proofs.write_route.Given as goal

abbrev pub invariant-loop-t : goal.invariant-loop-t
invariant-loop-t l = Writing l.fn.grid.width l.fn.grid.height l.horizon l.layers l.initial.v l.t l.v l.stretch
