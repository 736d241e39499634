-- The record of number 0 with no bar, then the routes, then the record with their sum. Assumes nothing.
use native.Mathlib.Omega.{arith}
use Rattle.children.proofs.Rooted.{root_record, not_rooted, root_room, sum_due, rooted}
use Rattle.children.proofs.make_root.Goals as goal

pub write_record-requires : goal.write_record-requires
write_record-requires c =
    let facts = root_record c.args.task.capacity c.args.columns.now 0 c.requires.ready.capacity_least c.requires.ready.capacity_most c.requires.room.0 (omega arith) in
    record { room = facts.0; fitting = facts.1 }

pub returns-then-not-free_routes : goal.returns-then-not-free_routes
returns-then-not-free_routes c =
    let facts = not_rooted c.args.task c.args.columns.now c.args.plans.now c.args.layers.now c.requires.ready c.requires.room.0 c.requires.room.1 c.write_record.new.columns c.write_record.ensures c.free_routes.new.plans c.free_routes.new.layers c.free_routes.result c.free_routes.ensures c.if-not-free_routes.true in
    record { kept = facts.0; rooted = facts.1.0; tables = facts.1.1 }

pub sum_at-sum-requires : goal.sum_at-sum-requires
sum_at-sum-requires c = (c.requires.ready.count_most, c.requires.ready.horizon_most, root_room c.args.task c.args.columns.now c.args.plans.now c.args.layers.now c.requires.ready c.requires.room.0 c.requires.room.1 c.write_record.new.columns c.write_record.ensures c.free_routes.new.plans c.free_routes.new.layers c.free_routes.result c.free_routes.ensures)

pub write_record-requires-2 : goal.write_record-requires-2
write_record-requires-2 c =
    let facts = sum_due c.args.task c.args.columns.now c.args.plans.now c.args.layers.now c.requires.ready c.requires.room.0 c.requires.room.1 c.write_record.new.columns c.write_record.ensures c.free_routes.new.plans c.free_routes.new.layers c.free_routes.result c.free_routes.ensures c.sum_at-sum.result c.sum_at-sum.ensures in
    record { room = facts.0; fitting = facts.1 }

pub returns : goal.returns
returns c =
    let facts = rooted c.args.task c.args.columns.now c.args.plans.now c.args.layers.now c.requires.ready c.requires.room.0 c.requires.room.1 c.write_record.new.columns c.write_record.ensures c.free_routes.new.plans c.free_routes.new.layers c.free_routes.result c.free_routes.ensures c.sum_at-sum.result c.sum_at-sum.ensures c.write_record-2.new.columns c.write_record-2.ensures c.if-not-free_routes.false in
    record { kept = facts.0; rooted = facts.1.0; tables = facts.1.1 }
