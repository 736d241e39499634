-- The carrier's part is lent, one byte for each step, and the route fills it. Assumes nothing.
use Rattle.children.proofs.Seeking.{route_put}
use Rattle.children.proofs.put_route.Goals as goal

pub returns : goal.returns
returns c = route_put c.args.task c.args.carrier c.grid_of-grid.result c.grid_of-grid.ensures c.trip_of-trip.result c.trip_of-trip.ensures c.args.layers.now c.requires.readable c.stretch_of.result c.stretch_of.ensures c.args.into c.args.plans.now c.requires.room c.write_route.new.stretch c.write_route.ensures
