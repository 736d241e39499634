-- By the cases: no route, a route and no record for it, or a child that is due. Assumes nothing.
use Rattle.children.proofs.Due.{none_due, full_due, child_done, child_due}
use Rattle.children.proofs.add_child.Goals as goal

pub returns-then-not-has_route : goal.returns-then-not-has_route
returns-then-not-has_route c =
    let facts = none_due c.args.task c.args.columns.now c.args.plans.now c.args.layers.now c.has_route.new.layers c.args.node c.args.barred.carrier c.args.barred.bar c.has_route.result c.has_route.ensures c.args.made c.if-not-has_route.true in
    record { kept = facts.0; grown = facts.1.0; tables = facts.1.1 }

pub returns-then-made-task : goal.returns-then-made-task
returns-then-made-task c =
    let facts = full_due c.args.task c.args.columns.now c.args.plans.now c.args.layers.now c.has_route.new.layers c.args.node c.args.barred.carrier c.args.barred.bar c.has_route.result c.has_route.ensures c.args.made c.if-not-has_route.false c.if-made-task.true in
    record { kept = facts.0; grown = facts.1.0; tables = facts.1.1 }

pub make_child-requires : goal.make_child-requires
make_child-requires c = child_due c.args.task c.args.columns.now c.args.plans.now c.args.layers.now c.has_route.new.layers c.args.node c.args.barred.carrier c.args.barred.bar c.has_route.result c.has_route.ensures c.args.made c.requires.ready c.requires.sound c.requires.in_range.0 c.requires.in_range.1 c.requires.bar_set.0 c.requires.bar_set.1 c.if-not-has_route.false c.if-made-task.false

pub returns : goal.returns
returns c =
    let facts = child_done c.args.task c.args.columns.now c.args.plans.now c.args.layers.now c.has_route.new.layers c.args.node c.args.barred.carrier c.args.barred.bar c.has_route.result c.has_route.ensures c.args.made c.requires.ready c.requires.sound c.requires.in_range.0 c.requires.in_range.1 c.requires.bar_set.0 c.requires.bar_set.1 c.if-not-has_route.false c.if-made-task.false c.make_child.new.columns c.make_child.new.plans c.make_child.ensures in
    record { kept = facts.0; grown = facts.1.0; tables = facts.1.1 }
