-- Wrong answers of `told_lines`, `answer_lines`, `refusal_lines`, `book_lines` and `program_lines`, each refuted at one answer, number
-- or book: the contract with it is false, by computation. Assumes nothing.
use Prim.Native.Nat.{ℕ, ◌+◌}
use native.Mathlib.Omega.{arith}
use mathlib.Core.List.{List, [], ◌∷◌}
use mathlib.Core.Path.{◌≡◌, ap, sym, ◌∙◌}
use lib.ListN.{length, get_or, drop, replicate}
use lib.Seq.{get_or-take, get_or-drop}
use Rattle.std.specs.Prelude.{Err}
use Rattle.lists.specs.Lists.{refuse_if, each}
use Rattle.routes.specs.Route.{route_in, step_cost, cost}
use Rattle.book.specs.Book.{no_contents, book_verdict, if_good}
use Rattle.book.proofs.Example.{printed_book}
use Rattle.job.specs.Told.{named, counted, too_short}
use Rattle.job.specs.declared.Refusal.TheVariants.{SharedGoal}
use Rattle.tables.specs.Tables.{Tables}
use Rattle.planner.specs.Answer.{answer_told}
use Rattle.planner.specs.declared.answer.Denial.TheVariants.{Job as OfJob, Short, Full}
use Rattle.text.specs.Text.{Page, page, put_byte, put, digits_within, digits}
use Rattle.lines.specs.Lines.{answer_word, number_line, pair_line, cells_text, cost_line, carrier_line, carrier_lines, plan_text, short_text, rest_text, told_text, holds_no_plan, carriers_text}
use Rattle.lines.specs.Printed.{book_text, book_tables, Printed}
use Rattle.lines.specs.Program.{program_tables, program_text, ProgramPrinted}
use Rattle.lines.proofs.Example.{printed_text, printed_book_text, shared_goal_book, shared_goal_text, shared_goal_text_lem}

-- a page of so many zeros
abbrev blank : ℕ → Page
blank n = page (replicate n 0) 0

-- ---- told_lines, of a plan of sum 2 with 1 record: one carrier, 0 1 2, with H 2

abbrev plan_lines : List ℕ
plan_lines =
    told_text (counted 0 2 1)
    (carriers_text (record { starts = 0 ∷ []; goals = 2 ∷ []; slips = 0 ∷ []; count = 1 }) 2 (0 ∷ 1 ∷ 2 ∷ []))

-- the last line ends with the cells 0 1 2, and the whole text has 54 bytes
pub goal_cell_left_out : (given : List ℕ) → page given 52 ≡ put (blank 60) plan_lines → ⊥
unfolding put put_byte digits digits_within number_line cells_text cost_line carrier_line carrier_lines plan_text rest_text told_text holds_no_plan carriers_text each route_in cost step_cost
goal_cell_left_out given e = let z : ◌≡◌ {A = ℕ} 52 54 = ap (λ (p : Page). p.at) e in omega arith

-- '2' is 50; the number of records stands at byte 23
pub sum_printed_as_records : (given : List ℕ) (r : ℕ) → get_or given 23 0 ≡ 50 → page given r ≡ put (blank 60) plan_lines → ⊥
unfolding put put_byte digits digits_within number_line cells_text cost_line carrier_line carrier_lines plan_text rest_text told_text holds_no_plan carriers_text each route_in cost step_cost
sum_printed_as_records given r wrong e = let z : ◌≡◌ {A = ℕ} 50 49 = sym wrong ∙ ap (λ (p : Page). get_or p.bytes 23 0) e in omega arith

-- 16 with carriers 0 and 1, the greater printed first: '1' is 49, at byte 19
pub pair_printed_exchanged : (carriers given : List ℕ) (r : ℕ) → get_or given 19 0 ≡ 49 → page given r ≡ put (blank 30) (told_text (named 16 0 1) carriers) → ⊥
unfolding put put_byte digits digits_within number_line pair_line rest_text told_text
pair_printed_exchanged carriers given r wrong e = let z : ◌≡◌ {A = ℕ} 49 48 = sym wrong ∙ ap (λ (p : Page). get_or p.bytes 19 0) e in omega arith

-- 7 with the line of its length first: 'n' is 110, at byte 9
pub length_printed_first : (carriers given : List ℕ) (r : ℕ) → get_or given 9 0 ≡ 110 → page given r ≡ put (blank 30) (told_text (too_short 1 4) carriers) → ⊥
unfolding put put_byte digits digits_within number_line short_text rest_text told_text
length_printed_first carriers given r wrong e = let z : ◌≡◌ {A = ℕ} 110 116 = sym wrong ∙ ap (λ (p : Page). get_or p.bytes 9 0) e in omega arith

-- ---- answer_lines: for any lines of carriers, so for those of any team and output

-- '8' is 56, at byte 7
pub seven_printed_as_8 : (carriers given : List ℕ) (r : ℕ) → get_or given 7 0 ≡ 56 → page given r ≡ put (blank 9) (told_text (answer_told (Err (Short 1 4))) carriers) → ⊥
unfolding put put_byte digits digits_within number_line short_text rest_text told_text
seven_printed_as_8 carriers given r wrong e = let z : ◌≡◌ {A = ℕ} 56 55 = sym wrong ∙ ap (λ (p : Page). get_or p.bytes 7 0) e in omega arith

-- 7 printed without what it tells: 'answer 7' has nine bytes, 'table 1' eight more, 'needed 4' nine more
pub seven_printed_bare : (carriers given : List ℕ) → page given 9 ≡ put (blank 30) (told_text (answer_told (Err (Short 1 4))) carriers) → ⊥
unfolding put put_byte digits digits_within number_line short_text rest_text told_text
seven_printed_bare carriers given e = let z : ◌≡◌ {A = ℕ} 9 26 = ap (λ (p : Page). p.at) e in omega arith

-- the length printed for the table: '4' is 52, at byte 15
pub length_printed_as_table : (carriers given : List ℕ) (r : ℕ) → get_or given 15 0 ≡ 52 → page given r ≡ put (blank 30) (told_text (answer_told (Err (Short 1 4))) carriers) → ⊥
unfolding put put_byte digits digits_within number_line short_text rest_text told_text
length_printed_as_table carriers given r wrong e = let z : ◌≡◌ {A = ℕ} 52 49 = sym wrong ∙ ap (λ (p : Page). get_or p.bytes 15 0) e in omega arith

-- 16 printed without its pair: 'answer 16' has ten bytes, 'carriers 0 1' thirteen more
pub sixteen_printed_bare : (carriers given : List ℕ) → page given 10 ≡ put (blank 30) (told_text (answer_told (Err (OfJob (SharedGoal 0 1)))) carriers) → ⊥
unfolding put put_byte digits digits_within number_line pair_line rest_text told_text
sixteen_printed_bare carriers given e = let z : ◌≡◌ {A = ℕ} 10 23 = ap (λ (p : Page). p.at) e in omega arith

-- 'answer 9' has nine bytes, 'records 2' ten more
pub nine_printed_without_records : (carriers given : List ℕ) → page given 9 ≡ put (blank 30) (told_text (answer_told (Err (Full 2))) carriers) → ⊥
unfolding put put_byte digits digits_within number_line rest_text told_text
nine_printed_without_records carriers given e = let z : ◌≡◌ {A = ℕ} 9 19 = ap (λ (p : Page). p.at) e in omega arith

-- ---- refusal_lines

-- '2' is 50, at byte 8
pub eleven_printed_as_12 : (given : List ℕ) (r : ℕ) → get_or given 8 0 ≡ 50 → page given r ≡ put (blank 10) (number_line answer_word 11) → ⊥
unfolding put put_byte digits digits_within number_line
eleven_printed_as_12 given r wrong e = let z : ◌≡◌ {A = ℕ} 50 49 = sym wrong ∙ ap (λ (p : Page). get_or p.bytes 8 0) e in omega arith

pub line_not_ended : (given : List ℕ) → page given 9 ≡ put (blank 10) (number_line answer_word 11) → ⊥
unfolding put put_byte digits digits_within number_line
line_not_ended given e = let z : ◌≡◌ {A = ℕ} 9 10 = ap (λ (p : Page). p.at) e in omega arith

-- ---- book_lines

-- document 01's own book has a plan
pub printed_book_answered_8 : (after : Tables) (given : List ℕ) (r : ℕ) → get_or given 7 0 ≡ 56
    → Printed (book_text printed_book 128 program_tables) (book_tables printed_book 128 program_tables) (replicate 4096 0) r after given → ⊥
unfolding put put_byte program_text
printed_book_answered_8 after given r wrong p =
    let e : get_or given 7 0 ≡ 48 = ap (λ (q : Page). get_or q.bytes 7 0) (p.printed ∙ ap (put (blank 4096)) printed_book_text) in
    let z : ◌≡◌ {A = ℕ} 56 48 = sym wrong ∙ e in
    omega arith

-- 'After 1 to 7 no lent entry has changed', nor with a book that is refused: here one of no bytes
pub refused_book_clears_the_output : (n : ℕ) (lent given : List ℕ) (r : ℕ) (before after : Tables) → get_or before.output 0 0 ≡ 5 → get_or after.output 0 0 ≡ 0
    → Printed (book_text [] n before) (book_tables [] n before) lent r after given → ⊥
unfolding book_tables book_verdict refuse_if no_contents if_good
refused_book_clears_the_output n lent given r before after was wrong p =
    let z : ◌≡◌ {A = ℕ} 0 5 = sym wrong ∙ ap (λ (t : Tables). get_or t.output 0 0) p.settled ∙ was in
    omega arith

-- ---- program_lines

-- another first line for document 01's own book, as 9 with too few records
pub printed_book_answered_9 : (lent given : List ℕ) (r : ℕ) → get_or given 7 0 ≡ 57 → ProgramPrinted printed_book lent r given → ⊥
printed_book_answered_9 lent given r wrong p =
    let ends : r ≡ length printed_text = p.ends ∙ ap length printed_book_text in
    let e : get_or given 7 0 ≡ 48 = sym (get_or-take r given 7 0 (omega arith)) ∙ ap (λ (text : List ℕ). get_or text 7 0) (p.text ∙ printed_book_text) in
    let z : ◌≡◌ {A = ℕ} 57 48 = sym wrong ∙ e in
    omega arith

-- P1's book with a shared goal answered 6: '6' is 54, at byte 7
pub shared_goal_printed_as_6 : (lent given : List ℕ) (r : ℕ) → get_or given 7 0 ≡ 54 → ProgramPrinted shared_goal_book lent r given → ⊥
shared_goal_printed_as_6 lent given r wrong p =
    let ends : r ≡ length shared_goal_text = p.ends ∙ ap length shared_goal_text_lem in
    let e : get_or given 7 0 ≡ 49 = sym (get_or-take r given 7 0 (omega arith)) ∙ ap (λ (text : List ℕ). get_or text 7 0) (p.text ∙ shared_goal_text_lem) in
    let z : ◌≡◌ {A = ℕ} 54 49 = sym wrong ∙ e in
    omega arith

-- its pair left out
pub shared_goal_printed_bare : (lent given : List ℕ) → ProgramPrinted shared_goal_book lent 10 given → ⊥
shared_goal_printed_bare lent given p = let z : 10 ≡ length shared_goal_text = p.ends ∙ ap length shared_goal_text_lem in omega arith

-- document 01's book cut after 64 bytes
pub printed_book_cut : (lent given : List ℕ) → ProgramPrinted printed_book lent 64 given → ⊥
printed_book_cut lent given p = let z : 64 ≡ length printed_text = p.ends ∙ ap length printed_book_text in omega arith

-- a page that is cleared behind the text, of any book
pub page_cleared_behind : (book lent given : List ℕ) (r : ℕ) → get_or lent r 0 ≡ 5 → get_or given r 0 ≡ 0 → ProgramPrinted book lent r given → ⊥
page_cleared_behind book lent given r was wrong p =
    let here : (xs : List ℕ) → get_or (drop r xs) 0 0 ≡ get_or xs r 0 = λ xs. let e : r + 0 ≡ r = omega arith in get_or-drop r xs 0 0 ∙ ap (λ (i : ℕ). get_or xs i 0) e in
    let z : ◌≡◌ {A = ℕ} 0 5 = sym wrong ∙ sym (here given) ∙ ap (λ (xs : List ℕ). get_or xs 0 0) p.kept ∙ here lent ∙ was in
    omega arith
