-- The loop's invariant: the first entries of the record, up to `column`, are written. Assumes nothing.
use Rattle.tables.specs.Post.{Entered}
use Rattle.tables.proofs.fill_record.Given as goal

abbrev pub invariant-loop-column : goal.invariant-loop-column
invariant-loop-column l = Entered l.capacity l.initial.columns l.node l.value-items l.column l.columns
