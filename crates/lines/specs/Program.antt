-- Document 01, 'The book of a job': the program 'uses N = 128 and prints'. P3: 'the program reads at most 300 bytes'.
use Rattle.std.specs.Prelude.{ℕ, ◌≤◌, Bool, List, Ok, ◌≡◌, length, take, drop, replicate}
use Rattle.job.specs.Verdict.{judge_with}
use Rattle.book.specs.Book.{book_verdict}
use Rattle.tables.specs.Tables.{Tables}
use Rattle.lines.specs.Printed.{job_in, book_text}

-- the tables that the program lends, all zeros: 8 columns of N records; N plans of 8 carriers and 64 steps; twice 64 layers of 256
-- cells; one plan
abbrev pub program_tables : Tables
program_tables = record { columns = replicate 1024 0; plans = replicate 65536 0; layers = replicate 32768 0; output = replicate 512 0 }

-- 'uses N = 128 and prints'
unfoldable pub program_text : List ℕ → List ℕ
program_text book = book_text book 128 program_tables

-- the first r bytes of the page are the whole text, r is its length, and the bytes after it are as they were
pub record ProgramPrinted (book lent : List ℕ) (r : ℕ) (given : List ℕ) : Type 0 where
  pub text : take r given ≡ program_text book
  pub ends : r ≡ length (program_text book)
  pub kept : drop r given ≡ drop r lent

-- [accepted_book_short] 'reads at most 300 bytes': a book whose job is accepted, with N or without, has at most 299. They are 16 of
-- contents, 2 and a hall of at most 256, 3 for each of at most 8 carriers, and H
unfoldable pub AcceptedShort : Type 0
AcceptedShort = (book : List ℕ) (wrongN : Bool) → book_verdict book ≡ Ok tt → judge_with wrongN (job_in book) ≡ Ok tt → length book ≤ 299

-- [accepted_book_uncut] so the text of the bytes that are read is the text of the book
unfoldable pub AcceptedUncut : Type 0
AcceptedUncut = (book : List ℕ) (wrongN : Bool) → book_verdict book ≡ Ok tt → judge_with wrongN (job_in book) ≡ Ok tt → program_text (take 300 book) ≡ program_text book
