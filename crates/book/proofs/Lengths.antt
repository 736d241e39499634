-- What 14 means: each body of a good book is read whole. The hall's body is two numbers and the hall's bytes, the carriers'
-- body is three bytes for each carrier, and the limits' body is one byte. The contents and the three bodies are the whole book.
-- Assumes nothing.
use Prim.Native.Nat.{ℕ, ◌+◌, ◌*◌, ◌%◌, ◌≤◌}
use native.Mathlib.Omega.{arith}
use mathlib.Core.Path.{◌≡◌, ap, ◌∙◌}
use mathlib.Core.Bool.{false, ◌||◌}
use mathlib.Core.List.{List}
use borrow.Author.Tests.{ltb-false, eqb-true, not-false}
use lib.Dec.{eqb}
use lib.ListN.{length, length-drop}
use Rattle.std.specs.Prelude.{Ok}
use Rattle.lists.proofs.Tests.{or_fails}
use Rattle.book.specs.Book.{entry_length, entry_body, hall_under_two, carriers_not_threes, limits_not_one, wrong_lengths, book_verdict, body_of}
use Rattle.book.specs.Parts.{hall_in, count_in}
use Rattle.book.proofs.Verdicts.{good_passed, asked_three, good_body}
use Rattle.book.proofs.Bodies.{good_consecutive, body_length}

lengths_passed : (book : List ℕ) → wrong_lengths book ≡ false
    → (hall_under_two (entry_body book 1) ≡ false) × (carriers_not_threes (entry_body book 2) ≡ false) × (limits_not_one (entry_body book 3) ≡ false)
unfolding wrong_lengths
lengths_passed book e =
    let h = or_fails (hall_under_two (entry_body book 1) || carriers_not_threes (entry_body book 2)) (limits_not_one (entry_body book 3)) e in
    let k = or_fails (hall_under_two (entry_body book 1)) (carriers_not_threes (entry_body book 2)) h.0 in
    (k.0, k.1, h.1)

module _ (book : List ℕ) (e : book_verdict book ≡ Ok tt) where
  -- a body is as long as its entry says
  pub asked_length : (n : ℕ) → 1 ≤ n → n ≤ 3 → length (body_of book n) ≡ entry_length book n
  asked_length n l h = ap length (good_body book n (asked_three book n e l h)) ∙ body_length book (good_consecutive book e) n l h

  -- 16 bytes of contents, then the bodies 'without gaps .. to the end'
  pub book_length : length book ≡ 16 + length (body_of book 1) + length (body_of book 2) + length (body_of book 3)
  book_length =
      let s = good_consecutive book e in
      omega (arith, asked_length 1 (omega arith) (omega arith), asked_length 2 (omega arith) (omega arith), asked_length 3 (omega arith) (omega arith))

  tests : (hall_under_two (entry_body book 1) ≡ false) × (carriers_not_threes (entry_body book 2) ≡ false) × (limits_not_one (entry_body book 3) ≡ false)
  tests = lengths_passed book (good_passed book e).3

  pub hall_whole : length (body_of book 1) ≡ 2 + length (hall_in (body_of book 1))
  unfolding hall_in
  hall_whole =
      let b = good_body book 1 (asked_three book 1 e (omega arith) (omega arith)) in
      let t : 2 ≤ length (body_of book 1) = rw b (ltb-false (length (entry_body book 1)) 2 tests.0) in
      omega (arith, length-drop 2 (body_of book 1))

  pub carriers_whole : length (body_of book 2) ≡ 3 * count_in (body_of book 2)
  carriers_whole =
      let b = good_body book 2 (asked_three book 2 e (omega arith) (omega arith)) in
      let t : length (body_of book 2) % 3 ≡ 0 = rw b (eqb-true (length (entry_body book 2) % 3) 0 (not-false (eqb (length (entry_body book 2) % 3) 0) tests.1)) in
      omega arith

  pub limits_whole : length (body_of book 3) ≡ 1
  limits_whole =
      let b = good_body book 3 (asked_three book 3 e (omega arith) (omega arith)) in
      rw b (eqb-true (length (entry_body book 3)) 1 (not-false (eqb (length (entry_body book 3)) 1) tests.2))
