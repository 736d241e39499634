-- The cells passed are written.
use Rattle.std.proofs.Common.{take}
use Rattle.text.specs.Lent.{Writes}
use Rattle.lines.specs.Lines.{cells_text}
use Rattle.lines.proofs.put_cells.Given as goal

abbrev pub invariant-loop-cell : goal.invariant-loop-cell
invariant-loop-cell l = Writes l.initial.page l.page (cells_text (take l.cell-index l.cells))
