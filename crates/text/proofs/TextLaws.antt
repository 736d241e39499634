-- A text in two parts is written as the one and then the other; the place stays inside the buffer, whose length stays as it was. The
-- digits of a number are those of its tenth and the last one, however many turns above the number are allowed.
-- Assumes nothing.
use Prim.Native.Nat.{ℕ, zero, suc, ◌+◌, ◌/◌, ◌%◌, ◌≤◌, ◌<◌}
use native.Mathlib.Nat.{mod-eq_of_lt}
use native.Mathlib.Numerals.{add-one}
use native.Mathlib.Omega.{arith}
use mathlib.Core.Bool.{true, false}
use mathlib.Core.List.{List, [], ◌∷◌, ◌++◌}
use mathlib.Core.Path.{◌≡◌, refl, sym, ap, ◌∙◌}
use lib.Dec.{ltb}
use lib.ListN.{length, set, take, drop, length-set}
use lib.Seq.{sets, sets-eq}
use borrow.Author.Tests.{ltb-true, ltb-false, lt-ltb, le-ltb}
use Rattle.text.specs.Text.{Page, page, put_byte, put, digits_within, digits}

pub put_append : (p : Page) (u v : List ℕ) → put p (u ++ v) ≡ put (put p u) v
unfolding put
put_append p [] v = refl
put_append p (b ∷ u) v = put_append (put_byte p b) u v

pub put_none : (p : Page) → put p [] ≡ p
unfolding put
put_none p = refl

-- this joins the clause of `Page::byte`, which puts a text of one byte, to the laws of its wrong answers, which speak of `put_byte`
pub put_one : (p : Page) (b : ℕ) → put p (b ∷ []) ≡ put_byte p b
unfolding put
put_one p b = refl

-- ---- one byte

pub byte_inside : (xs : List ℕ) (at b : ℕ) → at < length xs → page (set xs at b) (at + 1) ≡ put_byte (page xs at) b
unfolding put_byte
byte_inside xs at b inside = rw (lt-ltb at (length xs) inside, put_byte)

-- ---- a number

within_one : (turns n : ℕ) → n < 10 → digits_within (suc turns) n ≡ (48 + n % 10) ∷ []
unfolding digits_within
within_one turns n small = rw (lt-ltb n 10 small, digits_within) (rw (mod-eq_of_lt small))

within_more : (turns n : ℕ) → 10 ≤ n → digits_within (suc turns) n ≡ digits_within turns (n / 10) ++ ((48 + n % 10) ∷ [])
unfolding digits_within
within_more turns n more = rw (le-ltb n 10 more, digits_within)

-- how many turns are allowed does not matter
enough : (f g n : ℕ) → n < f → n < g → digits_within f n ≡ digits_within g n
enough zero g n a b = absurd (omega arith)
enough (suc f) zero n a b = absurd (omega arith)
enough (suc f) (suc g) n a b =
    (elim (ltb n 10) as (λ t. ltb n 10 ≡ t → digits_within (suc f) n ≡ digits_within (suc g) n) [
      | true ↦ λ e. within_one f n (ltb-true n 10 e) ∙ sym (within_one g n (ltb-true n 10 e))
      | false ↦ λ e.
          let more : 10 ≤ n = ltb-false n 10 e in
          within_more f n more
          ∙ ap (λ (ds : List ℕ). ds ++ ((48 + n % 10) ∷ [])) (enough f g (n / 10) (omega arith) (omega arith))
          ∙ sym (within_more g n more)
    ]) refl

pub digits_one : (n : ℕ) → n < 10 → digits n ≡ (48 + n % 10) ∷ []
unfolding digits
digits_one n small = within_one n n small

pub digits_more : (n : ℕ) → 10 ≤ n → digits n ≡ digits (n / 10) ++ ((48 + n % 10) ∷ [])
unfolding digits
digits_more n more =
    within_more n n more ∙ ap (λ (ds : List ℕ). ds ++ ((48 + n % 10) ∷ [])) (enough n (suc (n / 10)) (n / 10) (omega arith) (omega arith))

-- ---- what a reader of the buffer may count on

byte_kept : (p : Page) (b : ℕ) → length (put_byte p b).bytes ≡ length p.bytes
unfolding put_byte
byte_kept p b =
    (elim (ltb p.at (length p.bytes)) as (λ t. ltb p.at (length p.bytes) ≡ t → length (put_byte p b).bytes ≡ length p.bytes) [
      | true ↦ λ e. rw (e, put_byte) (length-set p.bytes p.at b)
      | false ↦ λ e. rw (e, put_byte)
    ]) refl

pub put_kept : (p : Page) (text : List ℕ) → length (put p text).bytes ≡ length p.bytes
unfolding put
put_kept p [] = refl
put_kept p (b ∷ text) = put_kept (put_byte p b) text ∙ byte_kept p b

byte_within : (p : Page) (b : ℕ) → p.at ≤ length p.bytes → (put_byte p b).at ≤ length p.bytes
unfolding put_byte
byte_within p b h =
    (elim (ltb p.at (length p.bytes)) as (λ t. ltb p.at (length p.bytes) ≡ t → (put_byte p b).at ≤ length p.bytes) [
      | true ↦ λ e. rw (e, put_byte) (omega (arith, ltb-true p.at (length p.bytes) e))
      | false ↦ λ e. rw (e, put_byte) h
    ]) refl

-- a place inside the buffer, its end included, leads to one
pub put_within : (p : Page) (text : List ℕ) → p.at ≤ length p.bytes → (put p text).at ≤ length p.bytes
unfolding put
put_within p [] h = h
put_within p (b ∷ text) h = rw byte_kept at (put_within (put_byte p b) text (rw byte_kept (byte_within p b h)))

-- byte after byte, where all of them fit
stores : (xs : List ℕ) (at : ℕ) (text : List ℕ) → at + length text ≤ length xs → put (page xs at) text ≡ page (sets xs at text) (at + length text)
unfolding put
stores xs at [] fits = ap (page xs) (omega arith)
stores xs at (b ∷ text) fits =
    ap (λ (p : Page). put p text) (sym (byte_inside xs at b (omega arith)) ∙ ap (page (set xs at b)) (add-one at))
    ∙ stores (set xs at b) (suc at) text (rw length-set (omega arith))
    ∙ ap (page (sets (set xs at b) (suc at) text)) (omega arith)

-- a text that fits stands whole at its place, and the rest of the buffer is as before
pub put_whole : (xs : List ℕ) (at : ℕ) (text : List ℕ) → at + length text ≤ length xs → put (page xs at) text ≡ page (take at xs ++ text ++ drop (at + length text) xs) (at + length text)
put_whole xs at text fits = stores xs at text fits ∙ ap (λ (ys : List ℕ). page ys (at + length text)) (sets-eq text xs at fits)
