-- `route_cases::Trip::walk` is safe: the way stays on the grid. Assumes nothing.
use Prim.Native.Nat.{◌<◌}
use Rattle.route_cases.proofs.Trip.walk.Given as goal

abbrev pub invariant-loop-t : goal.invariant-loop-t
invariant-loop-t l = l.cell < l.self.size
