-- The text ends inside the buffer, as any text put from its start does. Assumes nothing.
use mathlib.Core.Path.{sym}
use lib.Seq.{length-take-le}
use Rattle.lines.proofs.PrintedLaws.{inside_of}
use Rattle.lent_jobs.proofs.show.Goals as goal

pub slice_bounds-out-end : goal.slice_bounds-out-end
slice_bounds-out-end g c = inside_of _ _ c.answer_lines-end.ensures

pub slice_bounds-write_all-end : goal.slice_bounds-write_all-end
slice_bounds-write_all-end g c =
    let said = c.answer_lines-end in
    sym (length-take-le said.result said.new.out (inside_of _ _ said.ensures))
