-- One carrier's route more, or the first that there is none for. Assumes nothing.
use native.Mathlib.Omega.{arith}
use Rattle.children.proofs.FreeLoop.{free_start, free_turn, free_stop, free_done}
use Rattle.children.proofs.free_routes.Goals as goal

pub loop-carrier-init : goal.loop-carrier-init
loop-carrier-init c = free_start c.args.task c.args.plans.now c.args.layers.now

pub returns-then-not-free_route : goal.returns-then-not-free_route
returns-then-not-free_route c = free_stop c.args.task c.args.plans.now c.args.layers.now c.requires.ready.capacity_least c.requires.room.1 c.loop-carrier.carrier (omega arith) c.loop-carrier.plans c.loop-carrier.layers c.free_route.new.plans c.free_route.new.layers c.free_route.result c.loop-carrier.invariant c.free_route.ensures c.if-not-free_route.true

pub loop-carrier-preserved : goal.loop-carrier-preserved
loop-carrier-preserved c = free_turn c.args.task c.args.plans.now c.args.layers.now c.requires.ready.capacity_least c.requires.room.1 c.loop-carrier.carrier (omega arith) c.loop-carrier.plans c.loop-carrier.layers c.free_route.new.plans c.free_route.new.layers c.free_route.result c.loop-carrier.invariant c.free_route.ensures c.if-not-free_route.false

pub returns : goal.returns
returns c = free_done c.args.task c.args.plans.now c.args.layers.now c.requires.ready.count_least c.loop-carrier.carrier c.loop-carrier.plans c.loop-carrier.layers (omega arith) c.loop-carrier.invariant
