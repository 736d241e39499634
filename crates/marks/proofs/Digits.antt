-- Setting a binary digit of a sum of the five digits 1, 2, 4, 8, 16: the digit of each move is read off by a division, and setting it
-- adds its weight where it was 0. Assumes nothing.
use Prim.Native.Nat.{ℕ, zero, suc, ◌+◌, ◌/◌, ◌%◌, ◌^◌, ◌<◌}
use native.Mathlib.Omega.{arith}
use mathlib.Core.Path.{◌≡◌, refl, ap, ◌∙◌}
use mathlib.Core.Bool.{Bool, true, false}
use borrow.Author.Tests.{eqb-true, eqb-false}
use lib.Dec.{eqb}
use Rattle.lists.proofs.Sums.{sum_same, sum_changed}
use Rattle.hall.specs.Moves.{move_count}
use Rattle.marks.specs.Marks.{digit}
use Rattle.marks.specs.Post.{with_digit}
use Rattle.marks.proofs.FiveDigits.{bit, digits_to, digit_is}

digit_set_is : (x y m : ℕ) → (x / 2 ^ m % 2 ≡ 0 → y ≡ x + 2 ^ m) → ((x / 2 ^ m % 2 ≡ 0 → ⊥) → y ≡ x) → y ≡ with_digit x m
unfolding with_digit
digit_set_is x y m f g =
    (elim (eqb (x / 2 ^ m % 2) 0) as (λ (b : Bool). eqb (x / 2 ^ m % 2) 0 ≡ b → y ≡ elim b [ true ↦ x + 2 ^ m | false ↦ x ]) [
      | true ↦ λ e. f (eqb-true (x / 2 ^ m % 2) 0 e)
      | false ↦ λ e. g (eqb-false (x / 2 ^ m % 2) 0 e)
    ])
    refl

-- the moves f, and the same with r
pub record SetAt (f g : ℕ → Bool) (r : ℕ) : Type 0 where
  pub there : g r ≡ true
  pub elsewhere : (m : ℕ) → m < move_count → (m ≡ r → ⊥) → g m ≡ f m

module _ (f g : ℕ → Bool) (r : ℕ) (inside : r < move_count) (s : SetAt f g r) where
  digit_there_now : digit (g r) r ≡ 2 ^ r
  unfolding digit
  digit_there_now = rw s.there

  one_more : digits_to g move_count + digit (f r) r ≡ digits_to f move_count + 2 ^ r
  one_more =
      sum_changed move_count r (λ m. digit (f m) m) (λ m. digit (g m) m) inside (λ m l n. ap (λ (b : Bool). digit b m) (s.elsewhere m l n))
      ∙ ap (λ d. digits_to f move_count + d) digit_there_now

  pub digits_set : digits_to g move_count ≡ with_digit (digits_to f move_count) r
  unfolding bit digit
  digits_set = go (f r) (digit_is f r inside) one_more
    where
      go : (b : Bool) → digits_to f move_count / 2 ^ r % 2 ≡ bit b → digits_to g move_count + digit b r ≡ digits_to f move_count + 2 ^ r → digits_to g move_count ≡ with_digit (digits_to f move_count) r
      go true e k = digit_set_is (digits_to f move_count) (digits_to g move_count) r (λ z. omega (arith, e, z)) (λ n. omega (arith, k))
      go false e k = digit_set_is (digits_to f move_count) (digits_to g move_count) r (λ z. omega (arith, k)) (λ n. absurd (n e))

pub digits_kept : (f g : ℕ → Bool) → ((m : ℕ) → m < move_count → g m ≡ f m) → digits_to g move_count ≡ digits_to f move_count
digits_kept f g e = sum_same move_count (λ m. digit (g m) m) (λ m. digit (f m) m) (λ m h. ap (λ (b : Bool). digit b m) (e m h))

-- ---- as the code does it, with the weight d of the digit

pub fits_at : (x m : ℕ) → m < move_count → x < 256 → x / 2 ^ m % 2 ≡ 0 → x + 2 ^ m < 256
fits_at x zero h l e = omega arith
fits_at x (suc zero) h l e = omega arith
fits_at x (suc (suc zero)) h l e = omega arith
fits_at x (suc (suc (suc zero))) h l e = omega arith
fits_at x (suc (suc (suc (suc zero)))) h l e = omega arith
fits_at x (suc (suc (suc (suc (suc m))))) h l e = absurd (omega arith)
