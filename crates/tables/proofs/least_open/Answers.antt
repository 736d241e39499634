-- Among no nodes none is open. Assumes nothing.
use Rattle.tables.proofs.Taking.{among_none}
use Rattle.tables.proofs.least_open.Goals as goal

pub loop-node-init : goal.loop-node-init
loop-node-init c = among_none c.args.capacity c.args.columns.now
