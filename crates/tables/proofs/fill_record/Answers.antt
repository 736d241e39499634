-- One entry more. Assumes nothing.
use native.Mathlib.Omega.{arith}
use Rattle.tables.proofs.Records.{entered_more}
use Rattle.tables.proofs.fill_record.Goals as goal

pub loop-column-preserved : goal.loop-column-preserved
loop-column-preserved c = entered_more c.args.capacity c.args.columns.now c.args.node c.args.values c.loop-column.column c.loop-column.columns (omega arith) (omega arith) (omega arith) c.loop-column.invariant
