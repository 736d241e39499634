-- `route_bench::parents_fall` meets its contract: the parents passed are below their nodes. Assumes nothing.
use Prim.Native.Nat.{ℕ, ◌<◌}
use Rattle.records.specs.Columns.{parent_at}
use Rattle.route_bench.proofs.parents_fall.Given as goal

abbrev pub invariant-loop-y : goal.invariant-loop-y
invariant-loop-y l = (x : ℕ) → 0 < x → x < l.y → parent_at l.capacity l.columns x < x
