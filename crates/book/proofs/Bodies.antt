-- What 13 means: where it is not given, the three bodies stand one after the other from byte 16 to the book's last byte.
-- The test's four equations are taken apart and put together again; the rest is arithmetic of `take` and `drop`.
-- Assumes nothing.
use Prim.Native.Nat.{ℕ, zero, suc, ◌+◌, ◌-◌, ◌≤◌}
use native.Mathlib.Omega.{arith}
use mathlib.Core.Path.{◌≡◌, refl, sym, ◌∙◌}
use mathlib.Core.Bool.{Bool, true, false, not, ◌||◌}
use mathlib.Core.List.{List, ◌++◌}
use borrow.Author.Tests.{eqb-true, eq-eqb}
use lib.Dec.{eqb}
use lib.ListN.{length, take, drop, length-drop, take-append-drop}
use lib.Seq.{length-take-le, take_all, drop-drop}
use Rattle.std.specs.Prelude.{Ok}
use Rattle.book.specs.Book.{entry_offset, entry_length, body_end, entry_body, Consecutive, wrong_bodies, book_verdict, asked_verdict, body_of}
use Rattle.book.proofs.Verdicts.{good_passed, asked_good, asked_three, good_body}

all_four : (a b c d : Bool) → not a || not b || not c || not d ≡ false → (a ≡ true) × (b ≡ true) × (c ≡ true) × (d ≡ true)
all_four false b c d e = let z : ◌≡◌ {A = ℕ} 0 1 = cc in absurd (omega arith)
all_four true false c d e = let z : ◌≡◌ {A = ℕ} 0 1 = cc in absurd (omega arith)
all_four true true false d e = let z : ◌≡◌ {A = ℕ} 0 1 = cc in absurd (omega arith)
all_four true true true false e = let z : ◌≡◌ {A = ℕ} 0 1 = cc in absurd (omega arith)
all_four true true true true e = (refl, refl, refl, refl)

-- 13 is not due exactly where the bodies are consecutive
pub passed_consecutive : (book : List ℕ) → wrong_bodies book ≡ false → Consecutive book
unfolding wrong_bodies
passed_consecutive book e =
    let h =
    all_four
    (eqb (entry_offset book 1) 16)
    (eqb (entry_offset book 2) (body_end book 1))
    (eqb (entry_offset book 3) (body_end book 2))
    (eqb (body_end book 3) (length book))
    e in
    record { first = eqb-true _ _ h.0; second = eqb-true _ _ h.1; third = eqb-true _ _ h.2; last = eqb-true _ _ h.3 }

pub consecutive_passed : (book : List ℕ) → Consecutive book → wrong_bodies book ≡ false
unfolding wrong_bodies
consecutive_passed book s =
    simp
    (eq-eqb (entry_offset book 1) 16 s.first, eq-eqb (entry_offset book 2) (body_end book 1) s.second, eq-eqb (entry_offset book 3) (body_end book 2) s.third, eq-eqb (body_end book 3) (length book) s.last)

pub good_consecutive : (book : List ℕ) → book_verdict book ≡ Ok tt → Consecutive book
good_consecutive book e = passed_consecutive book (good_passed book e).2

-- ---- where the bodies stand

part_at : (book : List ℕ) (a b n m : ℕ) → a ≡ b → n ≡ m → take n (drop a book) ≡ take m (drop b book)
part_at book a b n m e f = cc

module _ (book : List ℕ) (s : Consecutive book) where
  body_inside : (n : ℕ) → 1 ≤ n → n ≤ 3 → entry_offset book n + entry_length book n ≤ length book
  body_inside zero l h = absurd (omega arith)
  body_inside (suc zero) l h = omega arith
  body_inside (suc (suc zero)) l h = omega arith
  body_inside (suc (suc (suc zero))) l h = omega arith
  body_inside (suc (suc (suc (suc n)))) l h = absurd (omega arith)

  -- an entry's body is as long as the entry says
  pub body_length : (n : ℕ) → 1 ≤ n → n ≤ 3 → length (entry_body book n) ≡ entry_length book n
  unfolding entry_body
  body_length n l h =
      length-take-le (entry_length book n) (drop (entry_offset book n) book)
      (let i = body_inside n l h in omega (arith, length-drop (entry_offset book n) book))

  -- the three parts that the length tests are handed, by the ends that the code worked out
  pub hall_part : (e : ℕ) → e ≡ body_end book 1 → take (e - 16) (drop 16 book) ≡ entry_body book 1
  unfolding entry_body
  hall_part e p = part_at book 16 (entry_offset book 1) (e - 16) (entry_length book 1) (omega arith) (omega arith)

  pub carriers_part : (e f : ℕ) → e ≡ body_end book 1 → f ≡ body_end book 2 → take (f - e) (drop e book) ≡ entry_body book 2
  unfolding entry_body
  carriers_part e f p q = part_at book e (entry_offset book 2) (f - e) (entry_length book 2) (omega arith) (omega arith)

  pub limits_part : (f : ℕ) → f ≡ body_end book 2 → take (length book - f) (drop f book) ≡ entry_body book 3
  unfolding entry_body
  limits_part f q = part_at book f (entry_offset book 3) (length book - f) (entry_length book 3) (omega arith) (omega arith)

-- ---- the bodies of a good book

-- 'from byte 16 to the end': the three lengths are what the contents leave
lengths_sum : (book : List ℕ) → book_verdict book ≡ Ok tt → entry_length book 1 + entry_length book 2 + entry_length book 3 ≡ length book - 16
lengths_sum book e = let s = good_consecutive book e in omega arith

-- the body asked for lies inside the book, and its part is what is handed back
pub asked_inside : (book : List ℕ) (kind : ℕ) → asked_verdict book kind ≡ Ok tt → body_end book kind ≤ length book
asked_inside book kind e =
    let g = asked_good book kind e in
    body_inside book (good_consecutive book g.0) kind g.1 g.2

pub body_handed : (book : List ℕ) (kind o e : ℕ) → asked_verdict book kind ≡ Ok tt → o ≡ entry_offset book kind → e ≡ body_end book kind
    → take (e - o) (drop o book) ≡ body_of book kind
unfolding entry_body
body_handed book kind o e g p q =
    part_at book o (entry_offset book kind) (e - o) (entry_length book kind) p (omega arith) ∙ sym (good_body book kind g)

module _ (book : List ℕ) (e : book_verdict book ≡ Ok tt) where
  body_hall : body_of book 1 ≡ take (entry_length book 1) (drop 16 book)
  unfolding entry_body
  body_hall =
      let s = good_consecutive book e in
      good_body book 1 (asked_three book 1 e (omega arith) (omega arith))
      ∙ part_at book (entry_offset book 1) 16 (entry_length book 1) (entry_length book 1) s.first refl

  body_carriers : body_of book 2 ≡ take (entry_length book 2) (drop (16 + entry_length book 1) book)
  unfolding entry_body
  body_carriers =
      let s = good_consecutive book e in
      good_body book 2 (asked_three book 2 e (omega arith) (omega arith))
      ∙ part_at book (entry_offset book 2) (16 + entry_length book 1) (entry_length book 2) (entry_length book 2) (omega arith) refl

  body_limits : body_of book 3 ≡ take (entry_length book 3) (drop (16 + entry_length book 1 + entry_length book 2) book)
  unfolding entry_body
  body_limits =
      let s = good_consecutive book e in
      good_body book 3 (asked_three book 3 e (omega arith) (omega arith))
      ∙ part_at book (entry_offset book 3) (16 + entry_length book 1 + entry_length book 2) (entry_length book 3) (entry_length book 3)
      (omega arith) refl

  -- the limits' body goes to the end, so the three put together are all that follows the contents
  pub bodies_join : body_of book 1 ++ (body_of book 2 ++ body_of book 3) ≡ drop 16 book
  bodies_join =
      let to_end : take (entry_length book 3) (drop (16 + entry_length book 1 + entry_length book 2) book) ≡ drop (16 + entry_length book 1 + entry_length book 2) book =
      take_all (entry_length book 3) (drop (16 + entry_length book 1 + entry_length book 2) book)
      (let t = lengths_sum book e in omega (arith, length-drop (16 + entry_length book 1 + entry_length book 2) book)) in
      rw (body_hall, body_carriers, body_limits, to_end, ← drop-drop (entry_length book 2) (16 + entry_length book 1) book, take-append-drop, ← drop-drop (entry_length book 1) 16 book, take-append-drop)
