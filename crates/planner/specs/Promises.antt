-- What each answer of the planner promises, in the paper's words, for a reader who does not want to know the tree: demands 2 and 3
-- of the mission. The law `planned_promised` proves it of what the definitions give for any job, any N and any tables.
use Rattle.std.specs.Prelude.{ℕ, ◌≤◌, ◌<◌, ◌≡◌, Ok, Err}
use Rattle.std.proofs.Math.Option.{Option}
use Rattle.job.specs.Job.{Job}
use Rattle.job.specs.Due.{RightJob, RightCapacity, Due}
use Rattle.job.specs.Verdict.{refusal_told}
use Rattle.tree.specs.Plan.{Routes}
use Rattle.tree.specs.Tree.{Node}
use Rattle.tree.specs.Promises.{LeastPlan, NoneExists, NeedIs}
use Rattle.tables.specs.Tables.{Tables, needed_length, FirstShort, plan_written}
use Rattle.planner.specs.declared.answer.Denial.TheVariants.{Job as OfJob, Short, NoPlan, Full}
use Rattle.planner.specs.Answer.{Answer}

-- 'the search tree of document 01 needs' so many records, and ends so
abbrev pub Needed : Job → ℕ → Type 0
Needed job need = (end : Option Node) × NeedIs job need end

-- `before` are the tables lent, `after` the tables left
unfoldable pub Promised : Job → ℕ → Tables → Answer → Tables → Type 0
Promised job capacity before (Ok p) after = (rs : Routes) × LeastPlan job rs p.sum × (after.output ≡ plan_written job rs before.output) × (p.records ≤ capacity) × Needed job p.records
Promised job capacity before (Err (OfJob r)) after = (RightJob job × RightCapacity capacity → ⊥) × Due job (RightCapacity capacity) (refusal_told r) × (after ≡ before)
Promised job capacity before (Err (Short t l)) after = RightJob job × RightCapacity capacity × FirstShort job capacity before t × (l ≡ needed_length job capacity t) × (after ≡ before)
Promised job capacity before (Err (NoPlan r)) after = NoneExists job × (r ≤ capacity) × Needed job r
Promised job capacity before (Err (Full r)) after = (r ≡ capacity) × (need : ℕ) × (capacity < need) × Needed job need
