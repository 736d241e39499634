-- `route_bench::adfulmise_best_route` meets its contract: arguments that are not right are refused. Assumes nothing.
use mathlib.Core.Path.{sym}
use Rattle.route_bench.specs.Answer.{Tells}
use Rattle.route_bench.proofs.Answering.{refused, answered, on_sides}
use Rattle.route_bench.proofs.adfulmise_best_route.Goals as goal

pub returns-then-not-right_arguments : goal.returns-then-not-right_arguments
unfolding Tells
returns-then-not-right_arguments c = on_sides c.in-Some.ensures.sides.0 c.in-Some.ensures.sides.1 (refused _ _ _ _ _ _ _ _ c.if-not-right_arguments.ensures)

pub returns : goal.returns
unfolding Tells
returns c = on_sides c.in-Some.ensures.sides.0 c.in-Some.ensures.sides.1 (answered _ _ _ _ _ _ _ _ _ _ _ c.if-not-right_arguments.ensures (rw (sym c.unwrap_or.ensures) at c.best_route.ensures))
