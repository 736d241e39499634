-- What the archive asked, sentence by sentence, and beside each the formal line. Statements only: [name] is the law that proves the line
-- below it, in proofs/Kept.antt, and of the two checks in proofs/Checks.antt.
--
-- Each line speaks of any planner and of any two checks. `gives job n before told after` says that the planner, called with this job,
-- N = n and the lent tables `before`, may tell `told` and leave the tables `after`; `routes job plan fault` and `meetings job plan fault`
-- that the route check or the meeting check, called with this job and the bytes of a plan, may tell `fault`. So a line says by itself
-- what it promises: proofs/Broken.antt refutes each broken planner or check by one of them, and together they leave no choice
-- (`LinesSettle`, specs/Ours.antt). Ours (there too) are what the contracts of `entry::plan`, `entry::check_routes` and
-- `entry::check_meetings` say and nothing more. None of the three has a `requires`, and each ends: the prover takes no loop and no
-- recursion without a measure that falls.
--
-- Words used: a job that is right (`RightJob`, in plain numbers), `Lawful` routes and their `cost`, `Apart` (no meeting, no swap),
-- patterns of holds (`Survives`), the lent `Tables`, and the tree's `NeedIs`: crates job, routes, clashes, tree, tables, in specs/.
use Rattle.std.specs.Prelude.{ℕ, ◌≤◌, ◌<◌, ◌≡◌, List, ◌++◌, ◌⊎◌, ◌↔◌, Ok, Some, length, take}
use Rattle.std.proofs.Math.Option.{Option, none, some}
use Rattle.lists.specs.Lists.{range, each}
use Rattle.lent.specs.Lent.{zeroed}
use Rattle.job.specs.Job.{Job, plan_length, plan_cell, wrong_capacity}
use Rattle.job.specs.Due.{RightJob, RightCapacity, Due}
use Rattle.job.specs.Told.{bare, too_short, refusal, plan_too_short}
use Rattle.job.specs.Verdict.{judge_with, judge, verdict_told}
use Rattle.job.specs.declared.Told.{Told}
use Rattle.job.specs.declared.Fault.{Fault}
use Rattle.routes.specs.Check.{route_told}
use Rattle.clashes.specs.Check.{plan_travel, clash_told}
use Rattle.clashes.specs.First.{RightChoice}
use Rattle.clashes.specs.declared.Clash.{Clash}
use Rattle.checks.specs.Demand.{LawfulRoutes, Safe, SafeNear}
use Rattle.checks.specs.First.{NoneWrong, FirstWrongPlace}
use Rattle.tree.specs.Plan.{Routes, route_of, IsPlan, IsSafe, Family, total}
use Rattle.tree.specs.Tree.{Node}
use Rattle.tree.specs.Promises.{LeastPlan, NeedIs}
use Rattle.tables.specs.Tables.{Tables, columns_length, plans_length, layers_length, needed_length, FirstShort, LongTables, plan_written}
use Rattle.planner.specs.Answer.{answer_told, planned}
use Rattle.book.specs.Book.{book_verdict}
use Rattle.lines.specs.Lines.{answer_word, sum_word, records_word, number_line, carrier_line}
use Rattle.lines.specs.Printed.{job_in}
use Rattle.lines.specs.Program.{program_tables, program_text}

-- a planner, and a check, as their callers see them
abbrev pub Planner : Type 1
Planner = Job → ℕ → Tables → Told → Tables → Type 0

abbrev pub Check : Type 1
Check = Job → List ℕ → Fault → Type 0

-- checks 1 to 6 and 16 pass, with N; and no lent table is too short
pub record Runs (job : Job) (n : ℕ) (before : Tables) : Type 0 where
  pub right : RightJob job
  pub capacity : RightCapacity n
  pub long : LongTables job n before

-- [accepted_exactly], [checks_accept_exactly] a job is accepted exactly if its numbers are within document 01's limits, for the planner
-- with N and for the two checks without
unfoldable pub AcceptedExactly : Type 0
AcceptedExactly = (job : Job) (n : ℕ) → (judge_with (wrong_capacity n) job ≡ Ok tt) ↔ (RightJob job × RightCapacity n)

unfoldable pub ChecksAcceptExactly : Type 0
ChecksAcceptExactly = (job : Job) → (judge job ≡ Ok tt) ↔ RightJob job

-- ---- 1. 'The planner takes any job and any tables we lend it, checks them itself and always ends with a plan or a numbered refusal.
-- ---- Document 01 says when each number is given and what every table holds afterwards.'

-- [always_numbered] 0 is a plan, 1 to 9 and 16 refuse
unfoldable pub AlwaysNumbered : Planner → Type 0
AlwaysNumbered gives = (job : Job) (n : ℕ) (before : Tables) (told : Told) (after : Tables) → gives job n before told after → (told.number ≤ 9) ⊎ (told.number ≡ 16)

-- [refuses_first] a job that is not right, or N: the number of 1 to 6 and 16 that is due, with its carrier or its pair, in the documents'
-- words (`Due`) and by the definition that gives it; 'no lent entry has changed'
unfoldable pub RefusesFirst : Planner → Type 0
RefusesFirst gives =
    (job : Job) (n : ℕ) (before : Tables) (told : Told) (after : Tables) → gives job n before told after → (RightJob job × RightCapacity n → ⊥)
    → Due job (RightCapacity n) told × (told ≡ verdict_told (judge_with (wrong_capacity n) job)) × (after ≡ before)

-- [short_is_seven] then 7, 'a lent table is too short', with 'the first short table, in document 01's order, and the length it needed' (P1),
-- in words (`FirstShort`) and by the definition that gives it; 'no lent entry has changed'
unfoldable pub ShortIsSeven : Planner → Type 0
ShortIsSeven gives =
    (job : Job) (n : ℕ) (before : Tables) (told : Told) (after : Tables) → gives job n before told after → RightJob job → RightCapacity n
    → (LongTables job n before → ⊥) → (t : ℕ) × FirstShort job n before t × (told ≡ too_short t (needed_length job n t)) × (after ≡ before)

-- [tables_left] otherwise 0, 8 or 9: 'the named least lengths of the first three tables are all zero and the rest unchanged. Output
-- changes only for 0'. 'Untold numbers are 0': the carriers, the table and its length, and the sum but for 0
pub record Left (job : Job) (n : ℕ) (before : Tables) (told : Told) (after : Tables) : Type 0 where
  pub number : (told.number ≡ 0) ⊎ ((told.number ≡ 8) ⊎ (told.number ≡ 9))
  pub untold : (told.carrier ≡ 0) × (told.other ≡ 0) × (told.table ≡ 0) × (told.needed ≡ 0) × ((told.number ≡ 0) ⊎ (told.sum ≡ 0))
  pub columns : after.columns ≡ zeroed (columns_length n) before.columns
  pub plans : after.plans ≡ zeroed (plans_length job n) before.plans
  pub layers : after.layers ≡ zeroed (layers_length job) before.layers
  pub output : (told.number ≡ 0) ⊎ (after.output ≡ before.output)

unfoldable pub TablesLeft : Planner → Type 0
TablesLeft gives = (job : Job) (n : ℕ) (before : Tables) (told : Told) (after : Tables) → gives job n before told after → Runs job n before → Left job n before told after

-- [nothing_else] what is told and every table are settled: two that the contract allows are equal
unfoldable pub NothingElse : Planner → Type 0
NothingElse gives =
    (job : Job) (n : ℕ) (before : Tables) (told told' : Told) (after after' : Tables) → gives job n before told after → gives job n before told' after'
    → (told ≡ told') × (after ≡ after')

-- ---- 2. 'A plan obeys the k-delay rule of Atzmon and others (2018), with the swap rule of Chen and others (2021) for k = 0, and no
-- ---- plan within the horizon that obeys it has a smaller sum of costs.' P3: 'Demands 2 and 3 read each carrier's own slip from then on':
-- ---- each job says its carriers' slips, and `IsPlan`, `IsSafe` and `Safe` read them.

-- [zero_is_least] the output holds a plan, carrier by carrier, then what was there; the sum told is its own, and none is smaller
pub record PlanGiven (job : Job) (before : Tables) (told : Told) (after : Tables) (rs : Routes) : Type 0 where
  pub written : after.output ≡ plan_written job rs before.output
  pub plan : IsPlan job rs
  pub sum : told.sum ≡ total job rs
  pub least : (qs : Routes) → IsPlan job qs → told.sum ≤ total job qs

unfoldable pub ZeroIsLeast : Planner → Type 0
ZeroIsLeast gives =
    (job : Job) (n : ℕ) (before : Tables) (told : Told) (after : Tables) → gives job n before told after → told.number ≡ 0
    → (rs : Routes) × PlanGiven job before told after rs

-- [eight_is_none] '"No plan" comes only when none exists.'
unfoldable pub EightIsNone : Planner → Type 0
EightIsNone gives =
    (job : Job) (n : ℕ) (before : Tables) (told : Told) (after : Tables) → gives job n before told after → told.number ≡ 8
    → (qs : Routes) → IsPlan job qs → ⊥

-- [nine_by_need] '"Records used up" comes exactly when the search tree of document 01 needs more records than were lent': the need and
-- the end are the tree's (`NeedIs`, which only one number and one end can be). From the need on the plan is the tree's, or there is none
pub record ByNeed (job : Job) (n : ℕ) (before : Tables) (need : ℕ) (end : Option Node) (told : Told) (after : Tables) : Type 0 where
  pub under : n < need → (told.number ≡ 9) × (told.records ≡ n)
  pub from : need ≤ n → told.records ≡ need
  pub plan : need ≤ n → (node : Node) → end ≡ some node → (told.number ≡ 0) × (after.output ≡ plan_written job node.routes before.output)
  pub none_left : need ≤ n → end ≡ none → told.number ≡ 8

unfoldable pub NineByNeed : Planner → Type 0
NineByNeed gives =
    (job : Job) → (need : ℕ) × (end : Option Node) × NeedIs job need end
    × ((n : ℕ) (before : Tables) (told : Told) (after : Tables) → gives job n before told after → Runs job n before → ByNeed job n before need end told after)

-- [more_alters_nothing] 'more records never alter a plan or a "no plan" already given': what is told is the same, and the output holds
-- the same routes
unfoldable pub MoreAltersNothing : Planner → Type 0
MoreAltersNothing gives =
    (job : Job) (n n' : ℕ) (before before' : Tables) (told told' : Told) (after after' : Tables) → gives job n before told after → gives job n' before' told' after'
    → Runs job n before → Runs job n' before' → n ≤ n' → (told.number ≡ 0) ⊎ (told.number ≡ 8)
    → (told' ≡ told) × (told.number ≡ 0 → (rs : Routes) × (after.output ≡ plan_written job rs before.output) × (after'.output ≡ plan_written job rs before'.output))

-- ---- 3, its last sentence. 'So the plan returned has the least sum among all that survive every such pattern.'

-- [least_of_the_safe]
pub record SafeGiven (job : Job) (before : Tables) (told : Told) (after : Tables) (rs : Routes) : Type 0 where
  pub written : after.output ≡ plan_written job rs before.output
  pub safe : IsSafe job rs
  pub sum : told.sum ≡ total job rs
  pub least : (qs : Routes) → Family job qs → IsSafe job qs → told.sum ≤ total job qs

unfoldable pub LeastOfTheSafe : Planner → Type 0
LeastOfTheSafe gives =
    (job : Job) (n : ℕ) (before : Tables) (told : Told) (after : Tables) → gives job n before told after → told.number ≡ 0
    → (rs : Routes) × SafeGiven job before told after rs

-- ---- 3. 'For an accepted job and routes that start, step and end lawfully within the horizon, the plan check passes them exactly when no
-- ---- pattern of holds, each carrier held at most k steps in all, brings two carriers into one cell or through each other, at any moment
-- ---- from the start on, the time after the last step included.' 'Passing both is what demand 3 calls the plan check.' For k each carrier's
-- ---- own slip, as above.

-- [check_is_exact]
unfoldable pub CheckIsExact : Check → Check → Type 0
CheckIsExact routes meetings =
    (job : Job) (plan : List ℕ) (r m : Fault) → routes job plan r → meetings job plan m → RightJob job → LawfulRoutes job plan
    → ((r.number ≡ 0) × (m.number ≡ 0)) ↔ Safe job plan

-- [check_is_exact_near] the same, where only an exchange of neighbouring cells is a collision: document 01's word
unfoldable pub CheckIsExactNear : Check → Check → Type 0
CheckIsExactNear routes meetings =
    (job : Job) (plan : List ℕ) (r m : Fault) → routes job plan r → meetings job plan m → RightJob job → LawfulRoutes job plan
    → ((r.number ≡ 0) × (m.number ≡ 0)) ↔ SafeNear job plan

-- [pass_is_safe] and a plan that passes both, whatever its bytes, is of a right job, lawful and safe
unfoldable pub PassIsSafe : Check → Check → Type 0
PassIsSafe routes meetings =
    (job : Job) (plan : List ℕ) (r m : Fault) → routes job plan r → meetings job plan m → r.number ≡ 0 → m.number ≡ 0
    → RightJob job × LawfulRoutes job plan × Safe job plan

-- [output_passes] demands 2 and 3 joined at the bytes: after 0 both checks say 0 about the output as it stands
unfoldable pub OutputPasses : Planner → Check → Check → Type 0
OutputPasses gives routes meetings =
    (job : Job) (n : ℕ) (before : Tables) (told : Told) (after : Tables) (r m : Fault) → gives job n before told after → told.number ≡ 0
    → routes job after.output r → meetings job after.output m → (r.number ≡ 0) × (m.number ≡ 0)

-- ---- Document 01, of the two checks: 'Both begin with checks 1 to 6 (no N there), then 7 if the plan is shorter than m × (H + 1); bytes
-- ---- after that length are not read.' Document 02: '16 shared goal, directly after 6 wherever 6 is given'.

-- [checks_refuse_first] the number of 1 to 6 and 16 that is due, in the documents' words and by the definition that gives it
unfoldable pub ChecksRefuseFirst : Check → Check → Type 0
ChecksRefuseFirst routes meetings =
    (job : Job) (plan : List ℕ) (r m : Fault) → routes job plan r → meetings job plan m → (RightJob job → ⊥)
    → Due job (Unit {0}) (verdict_told (judge job)) × (r ≡ refusal (verdict_told (judge job))) × (m ≡ refusal (verdict_told (judge job)))

-- [short_plan_is_seven] with 'the length it needed'
unfoldable pub ShortPlanIsSeven : Check → Check → Type 0
ShortPlanIsSeven routes meetings =
    (job : Job) (plan : List ℕ) (r m : Fault) → routes job plan r → meetings job plan m → RightJob job → length plan < plan_length job
    → (r ≡ plan_too_short (plan_length job)) × (m ≡ plan_too_short (plan_length job))

-- [plan_is_read] both say of a plan what they say of its first m × (H + 1) bytes
unfoldable pub PlanIsRead : Check → Check → Type 0
PlanIsRead routes meetings =
    (job : Job) (plan : List ℕ) (r r' m m' : Fault) → routes job plan r → routes job (take (plan_length job) plan) r'
    → meetings job plan m → meetings job (take (plan_length job) plan) m' → (r ≡ r') × (m ≡ m')

-- [first_wrong_told] 'The route check then says 0, or 21 with the first carrier, and its first step, at which the start, a move, a cell or
-- the goal is wrong'
unfoldable pub FirstWrongTold : Check → Type 0
FirstWrongTold routes =
    (job : Job) (plan : List ℕ) (r : Fault) → routes job plan r → RightJob job → plan_length job ≤ length plan
    → (LawfulRoutes job plan × NoneWrong job (plan_cell job plan) × (r ≡ refusal (bare 0)))
    ⊎ ((i t : ℕ) × FirstWrongPlace job (plan_cell job plan) i t × (r ≡ route_told (Ok (Some (record { carrier = i; step = t })))))

-- [chosen_told] 'The meeting check compares any bytes as cells ... and says 0, or 22 with the meeting or swap chosen by rule 5 and which of
-- the two it is.'
unfoldable pub ChosenTold : Check → Type 0
ChosenTold meetings =
    (job : Job) (plan : List ℕ) (m : Fault) → meetings job plan m → RightJob job → plan_length job ≤ length plan
    → (c : Clash) × RightChoice (plan_travel job plan) job.count c × (m ≡ clash_told c)

-- ---- Beside the demands, document 01: the program 'uses N = 128 and prints'. P3: 'the program reads at most 300 bytes'.
--
-- `ProgramPrinted book lent r given` is the whole contract of `lines::program_lines` (crate lines, specs/Program.antt), to which the
-- program hands the bytes that it read: the first r bytes of the page are all of `program_text book`, and no byte after them has changed.
-- There too: 300 bytes cut no accepted book, which has at most 299 (`AcceptedShort`, `AcceptedUncut`).

-- [plan_printed] 'For 0, then `sum`, `records`, and for each carrier its number, cost and cells from step 0 to its cost.' The routes are a
-- plan of the job in the book, with no smaller sum; the records are those told; no carrier is left out
unfoldable pub PlanPrinted : Type 0
PlanPrinted =
    (book : List ℕ) → book_verdict book ≡ Ok tt → (answer_told (planned (job_in book) 128 program_tables).answer).number ≡ 0
    → (rs : Routes) × LeastPlan (job_in book) rs (total (job_in book) rs)
    × (program_text book ≡ number_line answer_word 0 ++ (number_line sum_word (total (job_in book) rs) ++ number_line records_word (answer_told (planned (job_in book) 128 program_tables).answer).records ++ each (λ i. carrier_line i ((job_in book).goal_of i) (route_of rs i)) (range 0 (job_in book).count)))
