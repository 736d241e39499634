-- `route_bench::parents_fall` meets its contract: one parent that is not below its node refutes it, and all are at the end. Assumes nothing.
use native.Mathlib.Omega.{arith}
use Rattle.records.specs.Columns.{parent_at}
use Rattle.route_bench.specs.Answer.{Tells}
use Rattle.route_bench.proofs.Telling.{one_further}
use Rattle.route_bench.proofs.parents_fall.Goals as goal

pub returns-then-y-entry_at : goal.returns-then-y-entry_at
unfolding Tells
returns-then-y-entry_at c = λ f. omega (arith, f.down c.loop-y.y (omega arith) (omega arith), c.entry_at.ensures)

pub returns : goal.returns
unfolding Tells
returns c = record { room = omega arith; small = omega arith; inside = omega arith; down = λ x l m. c.loop-y.invariant x l (omega arith) }

pub returns-else-y-entry_at : goal.returns-else-y-entry_at
unfolding Tells
returns-else-y-entry_at c =
    let further = one_further (parent_at c.args.capacity c.args.columns.now) c.loop-y.y c.loop-y.invariant (omega (arith, c.entry_at.ensures)) in
    record { room = omega arith; small = omega arith; inside = omega arith; down = λ x l m. further x l (omega arith) }
