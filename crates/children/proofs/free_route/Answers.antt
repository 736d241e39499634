-- Record 0 has no bar, so the route sought with no new bar is the one without bars. Assumes nothing.
use Rattle.children.proofs.Keeping.{ready_still, first_within}
use Rattle.children.proofs.Seeking.{readable}
use Rattle.children.proofs.FreeLoop.{none_free, one_free}
use Rattle.children.proofs.free_route.Goals as goal

pub returns-then-not-has_route : goal.returns-then-not-has_route
returns-then-not-has_route c = none_free c.args.task c.args.columns.now c.args.plans.now c.args.layers.now c.has_route.new.layers c.args.carrier c.requires.root_free c.has_route.result c.has_route.ensures c.if-not-has_route.true

pub put_route-requires : goal.put_route-requires
put_route-requires c = record { readable = readable c.args.task c.has_route.new.layers c.args.carrier (ready_still c.args.task c.args.layers.now c.has_route.new.layers c.has_route.ensures.layers_kept.long c.requires.ready) c.requires.room.2; room = first_within c.args.task.capacity _ c.args.plans.now c.requires.ready.capacity_least c.requires.room.1 }

pub returns : goal.returns
returns c = one_free c.args.task c.args.columns.now c.args.plans.now c.args.layers.now c.has_route.new.layers c.args.carrier c.requires.root_free c.has_route.result c.has_route.ensures c.put_route.new.plans (ready_still c.args.task c.args.layers.now c.has_route.new.layers c.has_route.ensures.layers_kept.long c.requires.ready) c.requires.room.2 c.if-not-has_route.false c.put_route.ensures
