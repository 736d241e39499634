-- The sum of the weights 1, 2, 4, 8, 16 of five tests: the digit of each test is read off by a division. Assumes nothing.
use Prim.Native.Nat.{ℕ, zero, suc, ◌+◌, ◌*◌, ◌/◌, ◌%◌, ◌^◌, ◌≤◌, ◌<◌}
use native.Mathlib.Omega.{arith}
use mathlib.Core.Path.{◌≡◌}
use mathlib.Core.Bool.{Bool, true, false}
use Rattle.lists.specs.Lists.{sum_to}
use Rattle.hall.specs.Moves.{move_count}
use Rattle.marks.specs.Marks.{digit}

unfoldable pub bit : Bool → ℕ
bit true = 1
bit false = 0

digit_weight : (b : Bool) (m : ℕ) → digit b m ≡ bit b * 2 ^ m
unfolding digit bit
digit_weight true m = omega arith
digit_weight false m = omega arith

bit_small : (b : Bool) → bit b ≤ 1
unfolding bit
bit_small true = omega arith
bit_small false = omega arith

module _ (f : ℕ → Bool) where
  abbrev pub digits_to : ℕ → ℕ
  digits_to n = sum_to n (λ m. digit (f m) m)

  five_digits : digits_to move_count ≡ bit (f 0) + 2 * bit (f 1) + 4 * bit (f 2) + 8 * bit (f 3) + 16 * bit (f 4)
  unfolding sum_to
  five_digits = omega (arith, digit_weight (f 0) 0, digit_weight (f 1) 1, digit_weight (f 2) 2, digit_weight (f 3) 3, digit_weight (f 4) 4)

  five_small : (bit (f 0) ≤ 1) × (bit (f 1) ≤ 1) × (bit (f 2) ≤ 1) × (bit (f 3) ≤ 1) × (bit (f 4) ≤ 1)
  five_small = (bit_small (f 0), bit_small (f 1), bit_small (f 2), bit_small (f 3), bit_small (f 4))

  pub digit_is : (m : ℕ) → m < move_count → digits_to move_count / 2 ^ m % 2 ≡ bit (f m)
  digit_is zero h = let s = five_small in omega (arith, five_digits)
  digit_is (suc zero) h = let s = five_small in omega (arith, five_digits)
  digit_is (suc (suc zero)) h = let s = five_small in omega (arith, five_digits)
  digit_is (suc (suc (suc zero))) h = let s = five_small in omega (arith, five_digits)
  digit_is (suc (suc (suc (suc zero)))) h = let s = five_small in omega (arith, five_digits)
  digit_is (suc (suc (suc (suc (suc m))))) h = absurd (omega arith)
