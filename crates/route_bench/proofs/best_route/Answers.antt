-- `route_bench::best_route` meets its contract: right arguments are what seeking and writing ask, and no bar is added. Assumes nothing.
use mathlib.Core.Path.{◌≡◌}
use Rattle.std.proofs.Common.{rules, None}
use Rattle.route_bench.specs.Answer.{hall_of}
use Rattle.route_bench.proofs.Answering.{none_answered, cost_answered}
use Rattle.route_bench.proofs.best_route.Goals as goal

pub returns-in_err-cost : goal.returns-in_err-cost
returns-in_err-cost c =
    let told : c.from_residual.result ≡ None = search rules in
    rw told (none_answered (hall_of c.args.grid.width c.args.grid.height c.args.hall.now) c.args.trip.start c.args.trip.goal c.args.trip.horizon c.args.columns.now c.args.bound.capacity c.args.bound.node c.args.bound.carrier c.args.layers.now c.seek_route.new.layers c.seek_route.result c.requires.right.tables.late c.requires.right.floor.inside (rw c.requires.no_bar_more at c.seek_route.ensures) c.args.stretch.now c.in_err-cost.was)

pub returns : goal.returns
returns c = cost_answered (hall_of c.args.grid.width c.args.grid.height c.args.hall.now) c.args.trip.start c.args.trip.goal c.args.trip.horizon c.args.columns.now c.args.bound.capacity c.args.bound.node c.args.bound.carrier c.args.layers.now c.seek_route.new.layers c.seek_route.result c.requires.right.tables.late c.requires.right.floor.inside (rw c.requires.no_bar_more at c.seek_route.ensures) c.args.stretch.now c.write_route.new.stretch c.in_ok-cost.cost c.in_ok-cost.was c.write_route.ensures
