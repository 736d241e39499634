-- Wrong answers that the reader's contracts rule out. `Reader::answer` and `judge_asked` promise one thing of a book and a kind,
-- `Reader::body` and `body` another, so each law speaks of two functions. The book is the one that document 01 prints, as P3 has it
-- rewritten, unless another is named. Assumes nothing.
use Prim.Native.Nat.{ℕ, ◌+◌, ◌-◌}
use native.Mathlib.Omega.{arith}
use mathlib.Core.Path.{◌≡◌, refl, sym, ap, ◌∙◌}
use mathlib.Core.List.{List, [], ◌∷◌, ◌++◌}
use denote.Ref.{Bor}
use lib.ListN.{get_or, length, take, drop}
use Rattle.std.specs.Prelude.{Ok, Err}
use Rattle.lists.specs.Lists.{refuse_if}
use Rattle.book.specs.declared.BookRefusal.TheVariants.{WrongKinds, WrongBodies, WrongLengths, NoKind}
use Rattle.book.specs.Book.{book_number, low_high, entry_kind, entry_offset, entry_length, entry_body, no_contents, wrong_kinds, wrong_bodies, wrong_lengths, book_verdict, no_kind, if_good, asked_verdict, body_of, body_place}
use Rattle.book.specs.Handed.{Handed}
use Rattle.book.proofs.Example.{printed_book, printed_good, printed_carriers, printed_limits}
use Rattle.book.proofs.Verdicts.{asked_kind, asked_three, refused_empty}

-- ---- book_number

-- the refusals counted from 10
pub counted_from_ten : 11 ≡ book_number (Err WrongKinds) → ⊥
counted_from_ten e = let z : ◌≡◌ {A = ℕ} 11 12 = e in omega arith

-- 14 for bodies that do not follow one another
pub bodies_as_lengths : 14 ≡ book_number (Err WrongBodies) → ⊥
bodies_as_lengths e = let z : ◌≡◌ {A = ℕ} 14 13 = e in omega arith

-- ---- judge_book

-- a byte after the last body accepted
pub byte_after_the_bodies : Ok tt ≡ book_verdict (printed_book ++ (0 ∷ [])) → ⊥
unfolding book_verdict refuse_if no_contents wrong_kinds wrong_bodies entry_kind entry_offset entry_length low_high
byte_after_the_bodies e = let z : ◌≡◌ {A = ℕ} 0 13 = ap book_number e in omega arith

-- 14 before 13, of a book with a hall body of one byte and a byte after the bodies
pub lengths_before_bodies : Err WrongLengths ≡ book_verdict (3 ∷ 1 ∷ 16 ∷ 0 ∷ 1 ∷ 0 ∷ 2 ∷ 17 ∷ 0 ∷ 0 ∷ 0 ∷ 3 ∷ 17 ∷ 0 ∷ 0 ∷ 0 ∷ 1 ∷ 0 ∷ []) → ⊥
unfolding book_verdict refuse_if no_contents wrong_kinds wrong_bodies entry_kind entry_offset entry_length low_high
lengths_before_bodies e = let z : ◌≡◌ {A = ℕ} 14 13 = ap book_number e in omega arith

-- pairs of start and goal accepted, of a book whose one carrier has two bytes
pub carriers_in_pairs : Ok tt ≡ book_verdict (3 ∷ 1 ∷ 16 ∷ 0 ∷ 3 ∷ 0 ∷ 2 ∷ 19 ∷ 0 ∷ 2 ∷ 0 ∷ 3 ∷ 21 ∷ 0 ∷ 1 ∷ 0 ∷ 1 ∷ 1 ∷ 46 ∷ 0 ∷ 0 ∷ 0 ∷ []) → ⊥
unfolding book_verdict refuse_if no_contents wrong_kinds wrong_bodies wrong_lengths entry_kind entry_offset entry_length entry_body low_high
carriers_in_pairs e = let z : ◌≡◌ {A = ℕ} 0 14 = ap book_number e in omega arith

-- two bytes of limits accepted, a slip for all before H
pub limits_of_two_bytes : Ok tt ≡ book_verdict (3 ∷ 1 ∷ 16 ∷ 0 ∷ 3 ∷ 0 ∷ 2 ∷ 19 ∷ 0 ∷ 3 ∷ 0 ∷ 3 ∷ 22 ∷ 0 ∷ 2 ∷ 0 ∷ 1 ∷ 1 ∷ 46 ∷ 0 ∷ 0 ∷ 0 ∷ 0 ∷ 0 ∷ []) → ⊥
unfolding book_verdict refuse_if no_contents wrong_kinds wrong_bodies wrong_lengths entry_kind entry_offset entry_length entry_body low_high
limits_of_two_bytes e = let z : ◌≡◌ {A = ℕ} 0 14 = ap book_number e in omega arith

-- one byte of limits refused
pub one_byte_refused : Err WrongLengths ≡ book_verdict printed_book → ⊥
one_byte_refused e = let z : ◌≡◌ {A = ℕ} 14 0 = ap book_number (e ∙ printed_good) in omega arith

-- the high byte first: the offset 16 0 would be 4,096
pub high_byte_first : Err WrongBodies ≡ book_verdict printed_book → ⊥
high_byte_first e = let z : ◌≡◌ {A = ℕ} 13 0 = ap book_number (e ∙ printed_good) in omega arith

-- ---- Reader::answer and judge_asked

-- 15 before 11, of an empty book
pub kind_before_contents : Err NoKind ≡ asked_verdict [] 9 → ⊥
unfolding asked_verdict if_good book_verdict refuse_if no_contents
kind_before_contents e = let z : ◌≡◌ {A = ℕ} 15 11 = ap book_number e in omega arith

-- kinds counted from 0: the last one refused
pub last_kind_refused : Err NoKind ≡ asked_verdict printed_book 3 → ⊥
last_kind_refused e = let z : ◌≡◌ {A = ℕ} 15 0 = ap book_number (e ∙ asked_three printed_book 3 printed_good (omega arith) (omega arith)) in omega arith

-- the answer of the book alone: never 15
pub kind_not_asked : book_verdict printed_book ≡ asked_verdict printed_book 4 → ⊥
unfolding refuse_if no_kind
kind_not_asked e = let z : ◌≡◌ {A = ℕ} 0 15 = ap book_number (sym printed_good ∙ e ∙ sym (asked_kind printed_book 4 printed_good)) in omega arith

-- ---- Reader::body and body

-- the printed book with H 3: its limits are the byte that it begins with
abbrev horizon_three : List ℕ
horizon_three = take 33 printed_book ++ (3 ∷ [])

-- a book lent at any place of memory, and the parts of it: `book[a..e]`
module _ (block first : ℕ) where
  abbrev lent : List ℕ → Bor (List ℕ)
  lent book = record { ref_ptr = (block, first); now = book }

  abbrev part : List ℕ → ℕ → ℕ → Bor (List ℕ)
  part book a e = record { ref_ptr = (block, first + a); now = take (e - a) (drop a book) }

  -- kinds counted from 0: the limits for the carriers
  pub limits_for_carriers : Handed (lent printed_book) 2 (part printed_book 33 34) → ⊥
  limits_for_carriers h = let z : ◌≡◌ {A = ℕ} 4 3 = ap (λ (xs : List ℕ). get_or xs 0 9) (h.bytes ∙ printed_carriers) in omega arith

  -- the hall's body whatever the kind
  pub hall_for_limits : Handed (lent printed_book) 3 (part printed_book 16 27) → ⊥
  hall_for_limits h = let z : ◌≡◌ {A = ℕ} 11 1 = ap length (h.bytes ∙ printed_limits) in omega arith

  -- the carriers without their last byte
  pub carriers_one_short : Handed (lent printed_book) 2 (part printed_book 27 32) → ⊥
  carriers_one_short h = let z : ◌≡◌ {A = ℕ} 5 6 = ap length (h.bytes ∙ printed_carriers) in omega arith

  -- with a refusal, the last body
  pub last_body_for_no_kind : Handed (lent printed_book) 4 (part printed_book 33 34) → ⊥
  unfolding refuse_if no_kind
  last_body_for_no_kind h =
      let refused : asked_verdict printed_book 4 ≡ Err NoKind = sym (asked_kind printed_book 4 printed_good) in
      let empty : body_of printed_book 4 ≡ [] = refused_empty printed_book 4 (λ good. let z : ◌≡◌ {A = ℕ} 0 15 = ap book_number (sym good ∙ refused) in omega arith) in
      let z : ◌≡◌ {A = ℕ} 1 0 = ap length (h.bytes ∙ empty) in omega arith

  -- a byte of the contents for the limits: equal bytes, and only the place rules it out
  pub contents_like_limits : (part horizon_three 0 1).now ≡ body_of horizon_three 3
  unfolding body_of asked_verdict if_good no_kind book_verdict refuse_if no_contents wrong_kinds wrong_bodies wrong_lengths entry_kind entry_offset entry_length entry_body low_high
  contents_like_limits = refl

  pub contents_for_limits : Handed (lent horizon_three) 3 (part horizon_three 0 1) → ⊥
  unfolding body_place asked_verdict if_good no_kind book_verdict refuse_if no_contents wrong_kinds wrong_bodies wrong_lengths entry_kind entry_offset entry_length entry_body low_high
  contents_for_limits h = let z : first + 0 ≡ first + 33 = ap (λ (p : ℕ × ℕ). p.1) h.begins in omega arith

  -- a copy of the body in other memory
  pub copy_for_part : (other at : ℕ) → (other ≡ block → ⊥) → Handed (lent printed_book) 3 (record { ref_ptr = (other, at); now = 4 ∷ [] }) → ⊥
  copy_for_part other at apart h = apart (ap (λ (p : ℕ × ℕ). p.0) h.begins)
