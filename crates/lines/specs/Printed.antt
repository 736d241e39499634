-- Document 01, 'The book of a job': the job that a book holds, what is printed for it, and the lent tables afterwards.
use Rattle.std.specs.Prelude.{ℕ, ◌≤◌, List, ◌≡◌, length}
use Rattle.job.specs.Job.{Job}
use Rattle.job.specs.Team.{job_of}
use Rattle.job.specs.declared.Team.{Team}
use Rattle.book.specs.Book.{book_number, book_verdict, if_good, body_of}
use Rattle.book.specs.Parts.{width_in, height_in, hall_in, horizon_in}
use Rattle.carriers.specs.Lent.{bytes_team}
use Rattle.tables.specs.Tables.{Tables}
use Rattle.planner.specs.Answer.{Result, planned, answer_told}
use Rattle.text.specs.Text.{page, put}
use Rattle.lines.specs.Lines.{answer_word, number_line, carrier_lines, told_text}

abbrev pub team_in : List ℕ → Team
team_in book = bytes_team (body_of book 2)

abbrev pub job_in : List ℕ → Job
job_in book =
    job_of (width_in (body_of book 1)) (height_in (body_of book 1)) (hall_in (body_of book 1)) (team_in book) (horizon_in (body_of book 3))

-- the lines of a planner's result for the job in the book
unfoldable pub result_text : List ℕ → Result → List ℕ
result_text book result =
    told_text (answer_told result.answer) (carrier_lines (team_in book) (horizon_in (body_of book 3)) result.tables.output (team_in book).count)

-- what is printed for any book
unfoldable pub book_text : List ℕ → ℕ → Tables → List ℕ
book_text book n ts = if_good (book_verdict book) (result_text book (planned (job_in book) n ts)) (number_line answer_word (book_number (book_verdict book)))

-- the tables, which a refused book leaves as they were
unfoldable pub book_tables : List ℕ → ℕ → Tables → Tables
book_tables book n ts = if_good (book_verdict book) (planned (job_in book) n ts).tables ts

-- the text stands at the start of the buffer, inside which it ends, and the tables are these
pub record Printed (text : List ℕ) (tables : Tables) (lent : List ℕ) (r : ℕ) (after : Tables) (given : List ℕ) : Type 0 where
  pub printed : page given r ≡ put (page lent 0) text
  pub inside : r ≤ length given
  pub settled : after ≡ tables
