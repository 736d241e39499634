-- The program's own tables are long enough for every accepted job with N = 128, so that it never says 7 of the job in a book; a refused
-- book has a number from 11 on. Its page has room for every text, so that the text stands there whole. Assumes nothing.
use Prim.Native.Nat.{ℕ, ◌+◌, ◌≤◌, ◌<◌}
use native.Mathlib.Nat.{le_refl, mul-le-mul}
use native.Mathlib.Omega.{arith}
use mathlib.Core.List.{List, ◌++◌}
use mathlib.Core.Logic.{◌⊎◌, inl, inr}
use mathlib.Core.Path.{◌≡◌, sym, ap, ◌∙◌}
use lib.ListN.{length, get_or, drop, length-take, length-replicate}
use lib.Seq.{take_at, drop_at}
use Rattle.std.specs.Prelude.{Ok, Err}
use Rattle.hall.proofs.HallCode.{area_small, layers_small}
use Rattle.job.specs.Job.{Job, plan_length, wrong_capacity}
use Rattle.job.specs.Verdict.{judge_with}
use Rattle.job.proofs.Accepted.{accepted_facts, plan_small}
use Rattle.tables.specs.Tables.{Tables, plans_length, layers_length, LongTables}
use Rattle.planner.specs.Answer.{planned, answer_told}
use Rattle.planner.proofs.Known.{known, numbered}
use Rattle.book.specs.Book.{BookVerdict, book_number, book_verdict, if_good}
use Rattle.book.specs.declared.BookRefusal.TheVariants.{NoContents, WrongKinds, WrongBodies, WrongLengths, NoKind}
use Rattle.text.specs.Text.{digits_within, digits}
use Rattle.text.proofs.TextLaws.{digits_one}
use Rattle.lines.specs.Lines.{answer_word, number_line, told_text}
use Rattle.lines.specs.Printed.{job_in, result_text, book_text, book_tables, Printed}
use Rattle.lines.specs.Program.{program_tables, program_text, ProgramPrinted}
use Rattle.lines.proofs.Answers.{seven_short}
use Rattle.lines.proofs.Fits.{page_filled}

-- ---- the tables

long_enough : (job : Job) → judge_with (wrong_capacity 128) job ≡ Ok tt → LongTables job 128 program_tables
long_enough job accepted =
    let facts = accepted_facts (wrong_capacity 128) job accepted in
    let plan : plan_length job ≤ 512 = plan_small facts.count_most facts.horizon_most in
    let plans : plans_length job 128 ≤ 65536 = mul-le-mul (le_refl 128) plan in
    let layers : layers_length job ≤ 32768 = omega (arith, layers_small facts.horizon_most (area_small facts.width_most facts.height_most)) in
    record {
      columns = omega (arith, length-replicate {A = ℕ} 1024 0);
      plans = omega (arith, length-replicate {A = ℕ} 65536 0);
      layers = omega (arith, length-replicate {A = ℕ} 32768 0);
      output = omega (arith, length-replicate {A = ℕ} 512 0);
    }

-- of the job in a book
pub never_seven : (book : List ℕ) → (answer_told (planned (job_in book) 128 program_tables).answer).number ≡ 7 → ⊥
never_seven book seven =
    let (accepted, short) = seven_short (job_in book) 128 program_tables seven in
    short (long_enough (job_in book) accepted)

-- ---- the text

-- a number of one digit, at byte 7 of 'answer '
first_digit : (n : ℕ) (rest : List ℕ) → n < 10 → get_or (number_line answer_word n ++ rest) 7 0 ≡ 48 + n
unfolding number_line
first_digit n rest small = rw (digits_one n small) (omega arith)

-- of the numbers that the planner gives only 7 is printed as 7
only_seven : (n : ℕ) (rest tail : List ℕ) → (n ≤ 9) ⊎ (n ≡ 16) → number_line answer_word n ++ rest ≡ number_line answer_word 7 ++ tail → n ≡ 7
unfolding number_line digits digits_within
only_seven n rest tail (inl small) e = omega (arith, first_digit n rest (omega arith), first_digit 7 tail (omega arith), ap (λ (text : List ℕ). get_or text 7 0) e)
only_seven n rest tail (inr is) e =
    let f : number_line answer_word 16 ++ rest ≡ number_line answer_word 7 ++ tail = ap (λ (m : ℕ). number_line answer_word m ++ rest) (sym is) ∙ e in
    absurd (let z : ◌≡◌ {A = ℕ} 49 55 = ap (λ (text : List ℕ). get_or text 7 0) f in omega arith)

-- of any bytes
pub seven_never_printed : (book rest : List ℕ) → program_text book ≡ number_line answer_word 7 ++ rest → ⊥
unfolding program_text book_text if_good result_text told_text number_line digits digits_within
seven_never_printed book rest = go (book_verdict book)
  where
    go : (v : BookVerdict) → if_good v (result_text book (planned (job_in book) 128 program_tables)) (number_line answer_word (book_number v)) ≡ number_line answer_word 7 ++ rest → ⊥
    go (Ok tt) e =
        let answer = (planned (job_in book) 128 program_tables).answer in
        never_seven book (only_seven (answer_told answer).number _ rest (numbered (job_in book) 128 program_tables answer (known (job_in book) 128 program_tables)) e)
    go (Err NoContents) e = let z : ◌≡◌ {A = ℕ} 49 55 = ap (λ (text : List ℕ). get_or text 7 0) e in omega arith
    go (Err WrongKinds) e = let z : ◌≡◌ {A = ℕ} 49 55 = ap (λ (text : List ℕ). get_or text 7 0) e in omega arith
    go (Err WrongBodies) e = let z : ◌≡◌ {A = ℕ} 49 55 = ap (λ (text : List ℕ). get_or text 7 0) e in omega arith
    go (Err WrongLengths) e = let z : ◌≡◌ {A = ℕ} 49 55 = ap (λ (text : List ℕ). get_or text 7 0) e in omega arith
    go (Err NoKind) e = let z : ◌≡◌ {A = ℕ} 49 55 = ap (λ (text : List ℕ). get_or text 7 0) e in omega arith

-- ---- the page

pub program_printed : {r : ℕ} {after : Tables} {given : List ℕ} (book lent : List ℕ) → length lent ≡ 4096
    → Printed (book_text book 128 program_tables) (book_tables book 128 program_tables) lent r after given → ProgramPrinted book lent r given
unfolding program_text
program_printed {r} {after} {given} book lent room printed =
    let (bytes, ends) = page_filled book 128 program_tables after lent given r printed (omega arith) in
    record {
      text = rw bytes (take_at (book_text book 128 program_tables) (drop r lent) r (sym ends));
      ends = ends;
      kept = rw bytes (drop_at (book_text book 128 program_tables) (drop r lent) r (sym ends));
    }

-- the text ends on the page
pub program_inside : {r : ℕ} {given : List ℕ} (book lent : List ℕ) → ProgramPrinted book lent r given → r ≤ length given
program_inside {r} {given} book lent p = omega (arith, length-take r given, ap length p.text, p.ends)
