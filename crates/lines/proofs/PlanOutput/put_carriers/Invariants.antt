-- The lines of the carriers passed are written.
use Rattle.text.specs.Lent.{Writes}
use Rattle.lines.specs.Lines.{carrier_lines}
use Rattle.lines.proofs.PlanOutput.put_carriers.Given as goal

abbrev pub invariant-loop-i : goal.invariant-loop-i
invariant-loop-i l = Writes l.initial.page l.page (carrier_lines l.fn.self.team l.fn.self.h l.fn.self.cells.now l.i)
