-- The lines of the carriers whose plan stands in the planner's output, as the program holds the two.
use Rattle.std.specs.Prelude.{ℕ, List}
use Rattle.lines.specs.Lines.{carriers_text}
use Rattle.lines.specs.declared.PlanOutput.{PlanOutput}

abbrev pub carriers_in : PlanOutput → List ℕ
carriers_in plan = carriers_text plan.team plan.h plan.cells.now
