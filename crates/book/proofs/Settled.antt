-- Each public function's contract settles its result: two results that it allows for one book and kind are equal. Each
-- contract is equations with definitions, and what equals one thing is one thing. Assumes nothing.
use Prim.Native.Nat.{ℕ}
use mathlib.Core.Path.{◌≡◌, sym, ◌∙◌}
use mathlib.Core.List.{List}
use denote.Ref.{Bor}
use Rattle.book.specs.Book.{BookVerdict, book_number, book_verdict, asked_verdict}
use Rattle.book.specs.Handed.{Handed}

pub book_number_settled : (verdict : BookVerdict) (r s : ℕ) → r ≡ book_number verdict → s ≡ book_number verdict → r ≡ s
book_number_settled verdict r s p q = p ∙ sym q

pub judge_book_settled : (book : List ℕ) (r s : BookVerdict) → r ≡ book_verdict book → s ≡ book_verdict book → r ≡ s
judge_book_settled book r s p q = p ∙ sym q

pub judge_asked_settled : (book : List ℕ) (kind : ℕ) (r s : BookVerdict) → r ≡ asked_verdict book kind → s ≡ asked_verdict book kind → r ≡ s
judge_asked_settled book kind r s p q = p ∙ sym q

-- of the part handed back: its bytes and its place, so the pointer and the count that the machine has of it
pub body_settled : (book : Bor (List ℕ)) (kind : ℕ) (r s : Bor (List ℕ)) → Handed book kind r → Handed book kind s → (r.now ≡ s.now) × (r.ref_ptr ≡ s.ref_ptr)
body_settled book kind r s p q = (p.bytes ∙ sym q.bytes, p.begins ∙ sym q.begins)
