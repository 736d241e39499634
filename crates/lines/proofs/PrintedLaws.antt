-- The numbers read off the bodies of a book are those of its job, so the planner's result and its lines are those of the book; a
-- refused book has one line and leaves the tables as they were. Assumes nothing.
use Prim.Native.Nat.{ℕ, ◌≤◌}
use native.Mathlib.Omega.{arith}
use mathlib.Core.List.{List}
use mathlib.Core.Path.{◌≡◌, ap, ◌∙◌}
use lib.ListN.{length}
use Rattle.std.specs.Prelude.{Ok, Err}
use Rattle.job.specs.Job.{Job}
use Rattle.job.specs.declared.Team.{Team}
use Rattle.book.specs.Book.{book_number, book_verdict, if_good, body_of}
use Rattle.book.specs.declared.BookRefusal.{BookRefusal}
use Rattle.book.specs.Parts.{horizon_in}
use Rattle.tables.specs.Tables.{Tables}
use Rattle.planner.specs.Answer.{Answer, Result, planned, answer_told}
use Rattle.planner.specs.Post.{Planned}
use Rattle.text.specs.Text.{Page, page, put}
use Rattle.text.proofs.TextLaws.{put_kept, put_within}
use Rattle.lines.specs.Lines.{answer_word, number_line, carriers_text, told_text}
use Rattle.lines.specs.Printed.{team_in, job_in, result_text, book_text, book_tables, Printed}
use Rattle.lines.proofs.Held.{plan_held, told_held}

-- a text put from the start of a buffer ends inside it
pub inside_of : {r : ℕ} {given : List ℕ} (lent text : List ℕ) → page given r ≡ put (page lent 0) text → r ≤ length given
inside_of {r} {given} lent text e =
    let ends : r ≡ (put (page lent 0) text).at = ap (λ (p : Page). p.at) e in
    let kept : length given ≡ length lent = ap (λ (p : Page). length p.bytes) e ∙ put_kept (page lent 0) text in
    let within : (put (page lent 0) text).at ≤ length lent = put_within (page lent 0) text (omega arith) in
    omega arith

module _ (book : List ℕ) where
  -- what is read of the book is its job, so that the planner's answer and tables are those of the book
  text_same : (n : ℕ) (before : Tables) (answer : Answer) (after : Tables) (team : Team) (h : ℕ)
      → answer ≡ (planned (job_in book) n before).answer → after ≡ (planned (job_in book) n before).tables → team ≡ team_in book → h ≡ horizon_in (body_of book 3)
      → told_text (answer_told answer) (carriers_text team h after.output) ≡ result_text book (planned (job_in book) n before)
  unfolding result_text
  text_same n before answer after team h e1 e2 e3 e4 =
      let result : Result = planned (job_in book) n before in
      rw (e1, e2, e3, e4) (told_held (answer_told result.answer) (team_in book) (horizon_in (body_of book 3)) result.tables.output (plan_held book n before))

  pub good_printed : {r : ℕ} {after : Tables} {given : List ℕ} (n : ℕ) (before : Tables) (lent : List ℕ) (job : Job) (team : Team) (h : ℕ) (answer : Answer)
      → book_verdict book ≡ Ok tt → job ≡ job_in book → team ≡ team_in book → h ≡ horizon_in (body_of book 3)
      → Planned job n before answer after
      → page given r ≡ put (page lent 0) (told_text (answer_told answer) (carriers_text team h after.output))
      → Printed (book_text book n before) (book_tables book n before) lent r after given
  unfolding book_text book_tables if_good
  good_printed {r} {after} {given} n before lent job team h answer good job_is team-is horizon-is made lines =
      let answer-is : answer ≡ (planned (job_in book) n before).answer = made.told ∙ ap (λ (x : Job). (planned x n before).answer) job_is in
      let tables-are : after ≡ (planned (job_in book) n before).tables = made.tables ∙ ap (λ (x : Job). (planned x n before).tables) job_is in
      record {
        printed = rw (good, book_text) (lines ∙ ap (put (page lent 0)) (text_same n before answer after team h answer-is tables-are team-is horizon-is));
        inside = inside_of lent (told_text (answer_told answer) (carriers_text team h after.output)) lines;
        settled = rw (good, book_tables) tables-are;
      }

  pub refused_printed : {r : ℕ} {given : List ℕ} (n : ℕ) (before : Tables) (lent : List ℕ) (refusal : BookRefusal) (number : ℕ)
      → book_verdict book ≡ Err refusal → number ≡ book_number (Err refusal) → page given r ≡ put (page lent 0) (number_line answer_word number)
      → Printed (book_text book n before) (book_tables book n before) lent r before given
  unfolding book_text book_tables if_good
  refused_printed n before lent refusal number refused is e =
      record {
        printed = rw (refused, book_text) (e ∙ ap (λ (x : ℕ). put (page lent 0) (number_line answer_word x)) is);
        inside = inside_of lent (number_line answer_word number) e;
        settled = rw (refused, book_tables);
      }
