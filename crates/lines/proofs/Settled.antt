-- Two results that the contract of `book_lines` allows are equal: the buffer, the place and every table; and two of `program_lines`: the
-- page and the place. Those of `told_lines`, `answer_lines` and `refusal_lines` are settled as `page_settled` of crate text says.
-- Assumes nothing.
use Prim.Native.Nat.{ℕ}
use mathlib.Core.List.{List, ◌++◌}
use mathlib.Core.Path.{◌≡◌, refl, sym, ◌∙◌}
use lib.ListN.{drop, take-append-drop}
use Rattle.tables.specs.Tables.{Tables}
use Rattle.text.specs.Text.{page, put}
use Rattle.text.proofs.Settled.{page_settled}
use Rattle.lines.specs.Printed.{Printed}
use Rattle.lines.specs.Program.{program_text, ProgramPrinted}

pub printed_settled : (text : List ℕ) (tables : Tables) (lent : List ℕ) (r r' : ℕ) (after after' : Tables) (given given' : List ℕ)
    → Printed text tables lent r after given → Printed text tables lent r' after' given' → (given ≡ given') × (r ≡ r') × (after ≡ after')
printed_settled text tables lent r r' after after' given given' p q =
    let same = page_settled (put (page lent 0) text) given given' r r' p.printed q.printed in
    (same.0, same.1, p.settled ∙ sym q.settled)

-- the page is the text, and then what stood there
program_page : {r : ℕ} {given : List ℕ} (book lent : List ℕ) → ProgramPrinted book lent r given → given ≡ program_text book ++ drop r lent
program_page {r} {given} book lent p = rw (← p.text, ← p.kept) (sym (take-append-drop r given))

pub program_settled : (book lent given given' : List ℕ) (r r' : ℕ) → ProgramPrinted book lent r given → ProgramPrinted book lent r' given' → (given ≡ given') × (r ≡ r')
program_settled book lent given given' r r' p q =
    let same : r ≡ r' = p.ends ∙ sym q.ends in
    (program_page book lent p ∙ rw same refl ∙ sym (program_page book lent q), same)
