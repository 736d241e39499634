-- The loop's invariant: the carriers before this one have a route without bars, it is written, the layers hold the last one's levels, and
-- nothing past the tables' least lengths has changed. Assumes nothing.
use Rattle.children.proofs.FreeLoop.{FreeSoFar}
use Rattle.children.proofs.free_routes.Given as goal

abbrev pub invariant-loop-carrier : goal.invariant-loop-carrier
invariant-loop-carrier l = FreeSoFar l.task l.initial.plans l.initial.layers l.plans l.layers l.carrier
