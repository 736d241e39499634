-- For answer 0 a whole plan of the team stands in the output, so the guard `holds_no_plan` never holds where a carrier's line is due: an
-- accepted job has at most 8 carriers and H at most 63, and the routes written are H + 1 cells each. Assumes nothing.
use Prim.Native.Nat.{ℕ}
use native.Mathlib.Decide.{ℕ_discrete}
use mathlib.Core.Bool.{false}
use mathlib.Core.List.{List}
use mathlib.Core.Path.{◌≡◌, ap}
use borrow.Author.Tests.{ne_eqb}
use Rattle.job.specs.Job.{wrong_capacity}
use Rattle.job.specs.declared.Team.{Team}
use Rattle.job.specs.declared.Told.{Told}
use Rattle.job.proofs.Accepted.{accepted_facts}
use Rattle.tables.specs.Tables.{Tables}
use Rattle.tables.proofs.Held.{plan_long}
use Rattle.planner.specs.Answer.{planned, answer_told}
use Rattle.book.specs.Book.{body_of}
use Rattle.book.specs.Parts.{horizon_in}
use Rattle.lines.specs.Lines.{carrier_lines, holds_no_plan, carriers_text, rest_text, told_text}
use Rattle.lines.specs.Printed.{team_in, job_in}
use Rattle.lines.proofs.Answers.{zero_found}
use Rattle.lines.proofs.LinesLaws.{holds_plan, plan_lines_lem}

pub plan_held : (book : List ℕ) (n : ℕ) (ts : Tables) → (answer_told (planned (job_in book) n ts).answer).number ≡ 0
    → holds_no_plan (team_in book) (horizon_in (body_of book 3)) (planned (job_in book) n ts).tables.output ≡ false
plan_held book n ts is =
    let f = zero_found (job_in book) n ts is in
    let facts = accepted_facts (wrong_capacity n) (job_in book) f.accepted in
    holds_plan (team_in book) (horizon_in (body_of book 3)) (planned (job_in book) n ts).tables.output facts.count_most facts.horizon_most
    (rw f.written (plan_long (job_in book) f.routes f.least.plan.family ts.output))

-- only the lines for 0 have those of the carriers
pub told_held : (told : Told) (team : Team) (h : ℕ) (output : List ℕ) → (told.number ≡ 0 → holds_no_plan team h output ≡ false)
    → told_text told (carriers_text team h output) ≡ told_text told (carrier_lines team h output team.count)
unfolding told_text rest_text
told_held told team h output held = go (ℕ_discrete told.number 0)
  where
    go : Dec (told.number ≡ 0) → told_text told (carriers_text team h output) ≡ told_text told (carrier_lines team h output team.count)
    go (yes e) = ap (told_text told) (plan_lines_lem team h output (held e))
    go (no e) = simp (ne_eqb told.number 0 e, told_text, rest_text)
