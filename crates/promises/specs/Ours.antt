-- Our planner and our two checks, as what their contracts let them tell and leave. `Planned` is the whole contract of `entry::plan` (crate
-- planner, specs/Post.antt), at the team of the lent records; `route_verdict` and `meeting_verdict` those of `entry::check_routes` and
-- `entry::check_meetings`. The number and what is told are those that document 01's table gives (`answer_told`, `route_told`,
-- `meeting_told`; specs/Numbers.antt has them one by one).
use Rattle.std.specs.Prelude.{ℕ, ◌≡◌, List}
use Rattle.job.specs.Job.{Job}
use Rattle.job.specs.declared.Fault.{Fault}
use Rattle.job.specs.declared.Told.{Told}
use Rattle.routes.specs.Check.{route_verdict, route_told}
use Rattle.clashes.specs.Check.{meeting_verdict, meeting_told}
use Rattle.tables.specs.Tables.{Tables}
use Rattle.planner.specs.Answer.{Answer, answer_told}
use Rattle.planner.specs.Post.{Planned}
use Rattle.adfulmise.specs.Lent.{written, told_values, fault_values}
use Rattle.adfulmise.specs.Post.{Answered, Checked}
use Rattle.promises.specs.Promises.{Planner, Check, RefusesFirst, ShortIsSeven, TablesLeft, ZeroIsLeast, NineByNeed, ChecksRefuseFirst, ShortPlanIsSeven, FirstWrongTold, ChosenTold}

pub record OurPlanner (job : Job) (n : ℕ) (before : Tables) (told : Told) (after : Tables) : Type 0 where
  pub answer : Answer
  pub planned : Planned job n before answer after
  pub is : told ≡ answer_told answer

abbrev pub OurRoutes : Check
OurRoutes job plan fault = fault ≡ route_told (route_verdict job plan)

abbrev pub OurMeetings : Check
OurMeetings job plan fault = fault ≡ meeting_told (meeting_verdict job plan)

-- [library_is_ours] The library keeps the same promises: `Answered` is the whole contract of `adfulmise_plan`, `Checked` of the two checks
-- (crate adfulmise, specs/Post.antt), and what they give back and write for a caller in C is what ours tell
unfoldable pub LibraryIsOurs : Type 0
LibraryIsOurs =
    (job : Job) (n : ℕ) (before : Tables) (lent : List ℕ) (r : ℕ) (after : Tables) (given : List ℕ) → Answered job n before lent r after given
    → (told : Told) × OurPlanner job n before told after × (r ≡ told.number) × (given ≡ written (told_values told) lent)

-- [library_checks_are_ours]
unfoldable pub LibraryChecksAreOurs : Type 0
LibraryChecksAreOurs =
    (job : Job) (plan lent : List ℕ) (r : ℕ) (given : List ℕ)
    → (Checked (route_told (route_verdict job plan)) lent r given → (fault : Fault) × OurRoutes job plan fault × (r ≡ fault.number) × (given ≡ written (fault_values fault) lent))
    × (Checked (meeting_told (meeting_verdict job plan)) lent r given → (fault : Fault) × OurMeetings job plan fault × (r ≡ fault.number) × (given ≡ written (fault_values fault) lent))

-- [lines_settle] And the lines leave no choice: whatever planner keeps these five tells what ours tells and leaves what ours leaves, for
-- every job, every N and all tables. So none of document 01's broken planners keeps them, nor any other
unfoldable pub LinesSettle : Type 1
LinesSettle =
    (gives : Planner) → RefusesFirst gives → ShortIsSeven gives → TablesLeft gives → ZeroIsLeast gives → NineByNeed gives
    → (job : Job) (n : ℕ) (before : Tables) (told told' : Told) (after after' : Tables) → gives job n before told after → OurPlanner job n before told' after'
    → (told ≡ told') × (after ≡ after')

-- [check_lines_settle] and whatever two checks keep these four tell what ours tell
unfoldable pub CheckLinesSettle : Type 1
CheckLinesSettle =
    (routes meetings : Check) → ChecksRefuseFirst routes meetings → ShortPlanIsSeven routes meetings → FirstWrongTold routes → ChosenTold meetings
    → (job : Job) (plan : List ℕ) (r r' m m' : Fault) → routes job plan r → meetings job plan m → OurRoutes job plan r' → OurMeetings job plan m'
    → (r ≡ r') × (m ≡ m')
