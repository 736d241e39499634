-- The stretch is copied, the route put into it, and the record written with the sum of what then stands there: law by law of a child
-- that is due. Assumes nothing.
use Rattle.children.proofs.Due.{record_due}
use Rattle.children.proofs.make_child.Goals as goal

pub write_record-requires : goal.write_record-requires
write_record-requires c =
    let facts = record_due c.args.task c.args.layers.now c.args.columns.now c.args.plans.now c.args.node c.args.barred.carrier c.args.barred.bar c.args.made c.requires c.stretch_of-size.result c.stretch_of-size.ensures c.copy_stretch.new.plans c.copy_stretch.ensures c.put_route.new.plans c.put_route.ensures c.sum_at-sum.result c.sum_at-sum.ensures in
    record { room = facts.0; fitting = facts.1 }
