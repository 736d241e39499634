-- The start and the goal are on the grid, so the route is sought; it is found where its cost is told. Assumes nothing.
use Rattle.children.proofs.Seeking.{route_sought}
use Rattle.children.proofs.has_route.Goals as goal

pub returns : goal.returns
returns c = route_sought c.args.task c.args.carrier c.grid_of-grid.result c.grid_of-grid.ensures c.trip_of-trip.result c.trip_of-trip.ensures c.args.columns.now c.args.node c.args.bar c.args.layers.now c.seek_route-found.new.layers c.seek_route-found.result c.seek_route-found.ensures c.is_some.result c.is_some.ensures
