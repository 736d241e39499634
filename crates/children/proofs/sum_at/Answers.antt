-- The stretch is lent whole, and its sum is the node's. Assumes nothing.
use Rattle.children.proofs.Seeking.{sum_read}
use Rattle.children.proofs.sum_at.Goals as goal

pub returns : goal.returns
returns c = sum_read c.args.task c.stretch_of-size.result c.args.plans.now c.args.node c.sum_of.result c.stretch_of-size.ensures c.sum_of.ensures
