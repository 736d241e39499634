-- P3: 'with equal slips every accepted job keeps its answer.' What is claimed, and proved in proofs/Same.antt: where every slip is k, the
-- planner's answer and tables, and what both checks say, are those of document 01's rules with one k.
use Rattle.std.specs.Prelude.{ℕ, ◌≤◌, ◌<◌, ◌≡◌, Bool, List, Ok}
use Rattle.lists.specs.Lists.{Every}
use Rattle.job.specs.Job.{Job}
use Rattle.job.specs.Team.{job_of}
use Rattle.routes.specs.Check.{route_verdict}
use Rattle.clashes.specs.Check.{meeting_verdict}
use Rattle.book.specs.Parts.{count_in, slip_in}
use Rattle.carriers.specs.Lent.{bytes_team, records_team}
use Rattle.carriers.specs.declared.Carrier.{Carrier}
use Rattle.tables.specs.Tables.{Tables}
use Rattle.planner.specs.Answer.{Answer, planned}
use Rattle.planner.specs.Post.{Planned}
use Rattle.equal_slips.specs.Job.{OneJob, with_slips, EverySlip, one_job_of, most_delay, judge_by_k}
use Rattle.equal_slips.specs.Answer.{planned_by_k}
use Rattle.equal_slips.specs.Check.{route_verdict_by_k, meeting_verdict_by_k}

-- What is said of a job is what was said of it with one k, for every N, all tables and every plan: answer and tables by the planner's
-- definitions, answer and tables that the planner's contract allows, and both checks. All that is told is read off these.
pub record Keeps (job : Job) (one : OneJob) : Type 0 where
  pub answers : (n : ℕ) (before : Tables) → planned job n before ≡ planned_by_k one n before
  pub contract : (n : ℕ) (before : Tables) (answer : Answer) (after : Tables) → Planned job n before answer after
      → (answer ≡ (planned_by_k one n before).answer) × (after ≡ (planned_by_k one n before).tables)
  pub routes : (plan : List ℕ) → route_verdict job plan ≡ route_verdict_by_k one plan
  pub meetings : (plan : List ℕ) → meeting_verdict job plan ≡ meeting_verdict_by_k one plan

-- The theorem. A job was accepted by the planner, whose third check looks at N, or by the two checks, whose third does not.
abbrev pub AcceptedKeeps : Type 0
AcceptedKeeps = (one : OneJob) (slipOf : ℕ → ℕ) → EverySlip one slipOf → (wrongN : Bool) → judge_by_k wrongN one ≡ Ok tt → Keeps (with_slips one slipOf) one

-- Where k is at most 4, refused jobs keep their number and what is told with it too. Above 4 it may differ:
-- the job of law `above_four` was 3 and is 5.
abbrev pub SmallKeeps : Type 0
SmallKeeps = (one : OneJob) (slipOf : ℕ → ℕ) → EverySlip one slipOf → one.delay ≤ most_delay → Keeps (with_slips one slipOf) one

-- The same of carriers as they are lent: a list of records, each with slip k, or the second body of a book
abbrev pub RecordsKeep : Type 0
RecordsKeep =
    (width height : ℕ) (bytes : List ℕ) (records : List Carrier) (k h : ℕ) → Every (λ c. c.slip ≡ k) records
    → (wrongN : Bool) → judge_by_k wrongN (one_job_of width height bytes (records_team records) k h) ≡ Ok tt
    → Keeps (job_of width height bytes (records_team records) h) (one_job_of width height bytes (records_team records) k h)

abbrev pub BytesKeep : Type 0
BytesKeep =
    (width height : ℕ) (bytes body : List ℕ) (k h : ℕ) → ((i : ℕ) → i < count_in body → slip_in body i ≡ k)
    → (wrongN : Bool) → judge_by_k wrongN (one_job_of width height bytes (bytes_team body) k h) ≡ Ok tt
    → Keeps (job_of width height bytes (bytes_team body) h) (one_job_of width height bytes (bytes_team body) k h)
