-- The text for answer 0 in document 01's words: the lines `answer`, `sum` and `records`, and then a line for each carrier of a least
-- plan, with its cells from step 0 to its cost. Assumes nothing.
use Prim.Native.Nat.{ℕ, zero, suc, ◌+◌}
use native.Mathlib.Omega.{arith}
use mathlib.Core.List.{List, ◌++◌, append-nil}
use mathlib.Core.Path.{◌≡◌, refl, sym, ap, ◌∙◌}
use lib.ListN.{length, get_or, take}
use lib.Seq.{length-take-le}
use Rattle.std.specs.Prelude.{Ok}
use Rattle.lists.specs.Lists.{range, each}
use Rattle.lists.proofs.Ranges.{each_same, each_split}
use Rattle.job.specs.Job.{Job}
use Rattle.job.specs.declared.Team.{Team}
use Rattle.routes.specs.Route.{Lawful, cost, route_in}
use Rattle.tree.specs.Plan.{Routes, route_of, total, Family}
use Rattle.tree.specs.Promises.{LeastPlan}
use Rattle.tables.specs.Tables.{Tables, plan_written}
use Rattle.tables.proofs.Held.{route_held}
use Rattle.book.specs.Book.{book_verdict, if_good, body_of}
use Rattle.book.specs.Parts.{horizon_in}
use Rattle.planner.specs.Answer.{Answer, Result, planned, answer_told}
use Rattle.lines.specs.Lines.{answer_word, sum_word, records_word, number_line, carrier_line, carrier_lines, plan_text, rest_text, told_text}
use Rattle.lines.specs.Printed.{team_in, job_in, result_text, book_text}
use Rattle.lines.proofs.Answers.{cost_within, zero_found}

-- the cells shown are those of the steps 0 to the cost, and none is wanting
pub shown_to_cost : (job : Job) (i : ℕ) (r : List ℕ) → Lawful job i r → length (take (cost (job.goal_of i) r + 1) r) ≡ cost (job.goal_of i) r + 1
shown_to_cost job i r law = length-take-le (cost (job.goal_of i) r + 1) r (omega (arith, cost_within job i r law, law.long))

lines_each : (team : Team) (h : ℕ) (output : List ℕ) (n : ℕ) → carrier_lines team h output n ≡ each (λ i. carrier_line i (get_or team.goals i 0) (route_in h output i)) (range 0 n)
unfolding carrier_lines each range
lines_each team h output zero = refl
lines_each team h output (suc n) =
    let line : ℕ → List ℕ = λ i. carrier_line i (get_or team.goals i 0) (route_in h output i) in
    let s : n + suc 0 ≡ suc n = omega arith in
    let split : each line (range 0 (suc n)) ≡ each line (range 0 n) ++ (line n ++ each line (range (suc n) 0)) = rw s at (each_split line n 0) in
    ap (λ (xs : List ℕ). xs ++ line n) (lines_each team h output n) ∙ ap (λ (xs : List ℕ). each line (range 0 n) ++ xs) (sym (append-nil (line n))) ∙ sym split

module _ (book : List ℕ) where
  -- the lines of the carriers' routes
  abbrev route_lines : Routes → List ℕ
  route_lines rs = each (λ i. carrier_line i ((job_in book).goal_of i) (route_of rs i)) (range 0 (job_in book).count)

  written_lines : (rs : Routes) (output : List ℕ) → Family (job_in book) rs → carrier_lines (team_in book) (horizon_in (body_of book 3)) (plan_written (job_in book) rs output) (team_in book).count ≡ route_lines rs
  written_lines rs output family =
      lines_each (team_in book) (horizon_in (body_of book 3)) (plan_written (job_in book) rs output) (team_in book).count
      ∙ each_same _ (λ i. carrier_line i ((job_in book).goal_of i) (route_of rs i)) 0 (job_in book).count
      (λ i a l. ap (carrier_line i ((job_in book).goal_of i)) (route_held (job_in book) rs family output i (omega arith)))

  zero_text : (answer : Answer) (carriers : List ℕ) (s r : ℕ) → answer ≡ Ok (record { sum = s; records = r }) → told_text (answer_told answer) carriers ≡ number_line answer_word 0 ++ (number_line sum_word s ++ number_line records_word r ++ carriers)
  unfolding told_text rest_text plan_text
  zero_text answer carriers s r e = rw e refl

  good_text : (n : ℕ) (ts : Tables) → book_verdict book ≡ Ok tt → book_text book n ts ≡ result_text book (planned (job_in book) n ts)
  unfolding book_text if_good
  good_text n ts good = rw (good, book_text) refl

  pub plan_printed : (n : ℕ) (ts : Tables) → book_verdict book ≡ Ok tt → (answer_told (planned (job_in book) n ts).answer).number ≡ 0
      → (rs : Routes) × LeastPlan (job_in book) rs (total (job_in book) rs)
      × (book_text book n ts ≡ number_line answer_word 0 ++ (number_line sum_word (total (job_in book) rs) ++ number_line records_word (answer_told (planned (job_in book) n ts).answer).records ++ each (λ i. carrier_line i ((job_in book).goal_of i) (route_of rs i)) (range 0 (job_in book).count)))
  unfolding result_text
  plan_printed n ts good is =
      let f = zero_found (job_in book) n ts is in
      let result : Result = planned (job_in book) n ts in
      let carriers : List ℕ = carrier_lines (team_in book) (horizon_in (body_of book 3)) result.tables.output (team_in book).count in
      let same : carriers ≡ route_lines f.routes = rw f.written (written_lines f.routes ts.output f.least.plan.family) in
      let text : result_text book result ≡ number_line answer_word 0 ++ (number_line sum_word f.sum ++ number_line records_word f.records ++ carriers) = zero_text result.answer carriers f.sum f.records f.told in
      let whole : List ℕ → ℕ → ℕ → List ℕ = λ xs sum records. number_line answer_word 0 ++ (number_line sum_word sum ++ number_line records_word records ++ xs) in
      let told : f.records ≡ (answer_told result.answer).records = sym (ap (λ (a : Answer). (answer_told a).records) f.told) in (
        f.routes,
        rw f.least.told at f.least,
        good_text n ts good ∙ text
            ∙ ap (λ (xs : List ℕ). whole xs f.sum f.records) same
            ∙ ap (λ (s : ℕ). whole (route_lines f.routes) s f.records) f.least.told
            ∙ ap (whole (route_lines f.routes) (total (job_in book) f.routes)) told,
      )
