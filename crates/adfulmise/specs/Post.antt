-- What the exported functions promise: the number given back, and every entry of every list lent.
use Rattle.std.specs.Prelude.{ℕ, List, ◌≡◌, length}
use Rattle.book.specs.Book.{book_number, asked_verdict, body_of, body_place}
use Rattle.job.specs.Job.{Job}
use Rattle.job.specs.declared.Fault.{Fault}
use Rattle.tables.specs.Tables.{Tables}
use Rattle.planner.specs.Answer.{planned, answer_told}
use Rattle.planner.specs.Promises.{Promised}
use Rattle.adfulmise.specs.Lent.{written, told_values, fault_values, place_values}

-- the planner's number and what it tells, the tables, and the promises in plain terms
pub record Answered (job : Job) (capacity : ℕ) (before : Tables) (lent : List ℕ) (r : ℕ) (after : Tables) (given : List ℕ) : Type 0 where
  pub number : r ≡ (answer_told (planned job capacity before).answer).number
  pub told : given ≡ written (told_values (answer_told (planned job capacity before).answer)) lent
  pub tables : after ≡ (planned job capacity before).tables
  pub promised : Promised job capacity before (planned job capacity before).answer after

-- a check's number, and what it tells
pub record Checked (fault : Fault) (before : List ℕ) (r : ℕ) (after : List ℕ) : Type 0 where
  pub number : r ≡ fault.number
  pub told : after ≡ written (fault_values fault) before

-- the reader's number, and where the body stands: `body_place` bytes after the book's first, where the law `part_of_book` finds it
pub record Read (book : List ℕ) (kind : ℕ) (before : List ℕ) (r : ℕ) (after : List ℕ) : Type 0 where
  pub number : r ≡ book_number (asked_verdict book kind)
  pub place : after ≡ written (place_values (body_place book kind) (length (body_of book kind))) before
