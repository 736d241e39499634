-- No text that is printed for a book is longer than 2,296 bytes, whatever the book, N and the tables: of the numbers told none has more
-- than four digits, the needed length six, a cell has at most three, and 8 carriers have at most 64 cells each. So a page of 4,096 bytes takes it whole.
-- Assumes nothing.
use Prim.Native.Nat.{ℕ, zero, suc, ◌+◌, ◌*◌, ◌≤◌, ◌<◌}
use native.Mathlib.Omega.{arith}
use mathlib.Core.Bool.{Bool, true, false, cond, ◌||◌}
use mathlib.Core.List.{List, [], ◌∷◌, ◌++◌}
use mathlib.Core.Path.{◌≡◌, sym, ap, ◌∙◌}
use lib.Dec.{T, eqb, ltb, eqb→eq, ltb→lt}
use lib.ListN.{length, get_or, take, drop, length-append, length-take}
use lib.Seq.{get_or-take, take_at}
use Rattle.std.specs.Prelude.{Ok, Err}
use Rattle.lists.specs.Lists.{each}
use Rattle.lists.proofs.Tests.{and_both}
use Rattle.hall.proofs.HallCode.{area_small}
use Rattle.hall.specs.Hall.{Hall, open_byte, size, is_open}
use Rattle.job.specs.Job.{Job, wrong_capacity}
use Rattle.job.specs.declared.Team.{Team}
use Rattle.job.specs.declared.Told.{Told}
use Rattle.job.proofs.Accepted.{Facts, accepted_facts}
use Rattle.routes.specs.Route.{Lawful, cell_of, cost, route_in}
use Rattle.routes.proofs.Right.{lawful_opens}
use Rattle.book.specs.Book.{BookVerdict, book_number, book_verdict, if_good, body_of}
use Rattle.book.specs.Parts.{horizon_in}
use Rattle.book.specs.declared.BookRefusal.TheVariants.{NoContents, WrongKinds, WrongBodies, WrongLengths, NoKind}
use Rattle.tree.specs.Plan.{route_of}
use Rattle.tables.specs.Tables.{Tables}
use Rattle.tables.proofs.Held.{route_held}
use Rattle.planner.specs.Answer.{planned, answer_told}
use Rattle.text.specs.Text.{Page, digits}
use Rattle.text.proofs.Lengths.{three_digits, four_digits, six_digits}
use Rattle.text.proofs.TextLaws.{put_whole}
use Rattle.lines.specs.Lines.{answer_word, sum_word, records_word, carrier_word, table_word, needed_word, space, number_line, pair_line, cells_text, cost_line, carrier_line, carrier_lines, plan_text, short_text, rest_text, told_text}
use Rattle.lines.specs.Printed.{team_in, job_in, result_text, book_text, book_tables, Printed}
use Rattle.lines.proofs.Answers.{cost_within, zero_found, told_small}
use Rattle.lines.proofs.Small.{Small}

-- ---- a line

line_fits : (word : List ℕ) (n : ℕ) → n < 1000 → length (number_line word n) ≤ length word + 4
unfolding number_line
line_fits word n small = simp length-append (omega (arith, three_digits n small))

long_line_fits : (word : List ℕ) (n : ℕ) → n < 10000 → length (number_line word n) ≤ length word + 5
unfolding number_line
long_line_fits word n small = simp length-append (omega (arith, four_digits n small))

longest_line_fits : (word : List ℕ) (n : ℕ) → n < 1000000 → length (number_line word n) ≤ length word + 7
unfolding number_line
longest_line_fits word n small = simp length-append (omega (arith, six_digits n small))

pair_fits : (i j : ℕ) → i < 1000 → j < 1000 → length (pair_line i j) ≤ 17
unfolding pair_line
pair_fits i j a b = simp length-append (omega (arith, three_digits i a, three_digits j b))

-- a space and a number
cells_fit : (cells : List ℕ) → ((t : ℕ) → t < length cells → get_or cells t 0 < 1000) → length (cells_text cells) ≤ 4 * length cells
unfolding cells_text each
cells_fit [] small = omega arith
cells_fit (v ∷ cells) small =
    let rest : length (cells_text cells) ≤ 4 * length cells = cells_fit cells (λ t l. small (suc t) (omega arith)) in
    omega (arith, length-append (space ++ digits v) (cells_text cells), length-append space (digits v), three_digits v (small 0 (omega arith)))

cost_fits : (i c : ℕ) (route : List ℕ) → i < 1000 → c < 1000 → length route ≤ 64 → ((t : ℕ) → t < length route → get_or route t 0 < 1000) → length (cost_line i c route) ≤ 283
unfolding cost_line
cost_fits i c route a b short small =
    let cells : length (cells_text (take (c + 1) route)) ≤ 4 * length (take (c + 1) route) =
    cells_fit (take (c + 1) route) (λ t l. rw (get_or-take (c + 1) route t 0 (omega (arith, length-take (c + 1) route))) (small t (omega (arith, length-take (c + 1) route)))) in
    simp length-append (omega (arith, three_digits i a, three_digits c b, length-take (c + 1) route))

-- ---- the lines of a plan

-- a grid has at most 256 cells
cell_small : (hall : Hall) (v : ℕ) → hall.width ≤ 16 → hall.height ≤ 16 → T (is_open hall v) → v < 1000
unfolding is_open
cell_small hall v wide high opens =
    let inside : v < size hall = ltb→lt v (size hall) (and_both (ltb v (size hall)) (eqb (get_or hall.bytes v 0) open_byte) opens).0 in
    let most : size hall ≤ 256 = area_small wide high in
    omega arith

lawful_fits : (wrongN : Bool) (job : Job) (i : ℕ) (r : List ℕ) → Facts wrongN job → i < job.count → Lawful job i r → length (carrier_line i (job.goal_of i) r) ≤ 283
unfolding carrier_line
lawful_fits wrongN job i r facts l law =
    cost_fits i (cost (job.goal_of i) r) r (omega (arith, facts.count_most)) (omega (arith, cost_within job i r law, facts.horizon_most)) (omega (arith, law.long, facts.horizon_most))
    (λ t k. cell_small job.hall (cell_of r t) facts.width_most facts.height_most (lawful_opens job i r law t (omega (arith, law.long))))

carriers_fit : (team : Team) (h : ℕ) (output : List ℕ) (n : ℕ) → ((i : ℕ) → i < n → length (carrier_line i (get_or team.goals i 0) (route_in h output i)) ≤ 283) → length (carrier_lines team h output n) ≤ 283 * n
unfolding carrier_lines
carriers_fit team h output zero each-Fits = omega arith
carriers_fit team h output (suc n) each-Fits =
    let before : length (carrier_lines team h output n) ≤ 283 * n = carriers_fit team h output n (λ i l. each-Fits i (omega arith)) in
    omega (arith, length-append (carrier_lines team h output n) (carrier_line n (get_or team.goals n 0) (route_in h output n)), each-Fits n (omega arith))

plan_fits : (book : List ℕ) (n : ℕ) (ts : Tables) → (answer_told (planned (job_in book) n ts).answer).number ≡ 0
    → length (carrier_lines (team_in book) (horizon_in (body_of book 3)) (planned (job_in book) n ts).tables.output (team_in book).count) ≤ 2264
plan_fits book n ts is =
    let f = zero_found (job_in book) n ts is in
    let facts = accepted_facts (wrong_capacity n) (job_in book) f.accepted in
    let family = f.least.plan.family in
    let fits : length (carrier_lines (team_in book) (horizon_in (body_of book 3)) (planned (job_in book) n ts).tables.output (team_in book).count) ≤ 283 * (team_in book).count =
    carriers_fit (team_in book) (horizon_in (body_of book 3)) (planned (job_in book) n ts).tables.output (team_in book).count
    (λ i l. rw (f.written, route_held (job_in book) f.routes family ts.output i l) (lawful_fits (wrong_capacity n) (job_in book) i (route_of f.routes i) facts l (family.lawful i l))) in
    omega (arith, facts.count_most)

-- ---- the whole text

cond_fits : (b : Bool) (x y : List ℕ) (most : ℕ) → (T b → length x ≤ most) → length y ≤ most → length (cond b x y) ≤ most
cond_fits true x y most f g = f tt
cond_fits false x y most f g = g

rest_fits : (told : Told) (carriers : List ℕ) → Small told → (told.number ≡ 0 → length carriers ≤ 2264) → length (rest_text told carriers) ≤ 2285
unfolding rest_text plan_text short_text
rest_fits told carriers small plan =
    cond_fits (eqb told.number 0) (plan_text told carriers) _ 2285
    (λ t. simp length-append (omega (arith, plan (eqb→eq told.number 0 t), line_fits sum_word told.sum small.sum, long_line_fits records_word told.records (omega (arith, small.records)))))
    (cond_fits (eqb told.number 5) (number_line carrier_word told.carrier) _ 2285
    (λ t. omega (arith, line_fits carrier_word told.carrier (omega (arith, small.carrier))))
    (cond_fits (eqb told.number 6 || eqb told.number 16) (pair_line told.carrier told.other) _ 2285
    (λ t. omega (arith, pair_fits told.carrier told.other (omega (arith, small.carrier)) (omega (arith, small.other))))
    (cond_fits (eqb told.number 7) (short_text told) _ 2285
    (λ t. simp length-append (omega (arith, line_fits table_word told.table (omega (arith, small.table)), longest_line_fits needed_word told.needed (omega (arith, small.needed)))))
    (cond_fits (eqb told.number 8 || eqb told.number 9) (number_line records_word told.records) [] 2285
    (λ t. omega (arith, long_line_fits records_word told.records (omega (arith, small.records))))
    (omega arith)))))

result_fits : (book : List ℕ) (n : ℕ) (ts : Tables) → length (result_text book (planned (job_in book) n ts)) ≤ 2296
unfolding result_text told_text
result_fits book n ts =
    let told = answer_told (planned (job_in book) n ts).answer in
    let carriers = carrier_lines (team_in book) (horizon_in (body_of book 3)) (planned (job_in book) n ts).tables.output (team_in book).count in
    let small = told_small (job_in book) n ts in
    simp length-append (omega (arith, line_fits answer_word told.number (omega (arith, small.number)), rest_fits told carriers small (plan_fits book n ts)))

pub text_fits : (book : List ℕ) (n : ℕ) (ts : Tables) → length (book_text book n ts) ≤ 2296
unfolding book_text if_good
text_fits book n ts = go (book_verdict book)
  where
    go : (v : BookVerdict) → length (if_good v (result_text book (planned (job_in book) n ts)) (number_line answer_word (book_number v))) ≤ 2296
    go (Ok tt) = result_fits book n ts
    go (Err NoContents) = omega (arith, line_fits answer_word 11 (omega arith))
    go (Err WrongKinds) = omega (arith, line_fits answer_word 12 (omega arith))
    go (Err WrongBodies) = omega (arith, line_fits answer_word 13 (omega arith))
    go (Err WrongLengths) = omega (arith, line_fits answer_word 14 (omega arith))
    go (Err NoKind) = omega (arith, line_fits answer_word 15 (omega arith))

-- what `book_lines` leaves on a page with room for that: the whole text, and then what stood there
pub page_filled : (book : List ℕ) (n : ℕ) (ts after : Tables) (lent given : List ℕ) (r : ℕ) → Printed (book_text book n ts) (book_tables book n ts) lent r after given → 2296 ≤ length lent
    → (given ≡ book_text book n ts ++ drop r lent) × (r ≡ length (book_text book n ts))
page_filled book n ts after lent given r printed room =
    let text = book_text book n ts in
    let whole = printed.printed ∙ put_whole lent 0 text (omega (arith, text_fits book n ts)) in
    let ends : r ≡ length text = ap (λ (p : Page). p.at) whole ∙ omega arith in
    let bytes : given ≡ text ++ drop (0 + length text) lent = ap (λ (p : Page). p.bytes) whole in
    let behind : 0 + length text ≡ r = omega arith in
    (rw behind at bytes, ends)

pub page_whole : (book : List ℕ) (n : ℕ) (ts after : Tables) (lent given : List ℕ) (r : ℕ) → Printed (book_text book n ts) (book_tables book n ts) lent r after given → 2296 ≤ length lent
    → (take r given ≡ book_text book n ts) × (r ≡ length (book_text book n ts))
page_whole book n ts after lent given r printed room =
    let (bytes, ends) = page_filled book n ts after lent given r printed room in
    (rw bytes (take_at (book_text book n ts) (drop r lent) r (sym ends)), ends)
