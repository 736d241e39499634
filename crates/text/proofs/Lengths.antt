-- How long the digits of a number are: one below ten, and at most one more for each factor of ten. Assumes nothing.
use Prim.Native.Nat.{ℕ, ◌+◌, ◌*◌, ◌/◌, ◌%◌, ◌≤◌, ◌<◌}
use native.Mathlib.Omega.{arith}
use native.Mathlib.Decide.{dec_le}
use mathlib.Core.List.{[], ◌∷◌}
use mathlib.Core.Path.{◌≡◌, ap, ◌∙◌}
use lib.ListN.{length, length-append}
use Rattle.text.specs.Text.{digits}
use Rattle.text.proofs.TextLaws.{digits_one, digits_more}

one_digit : (n : ℕ) → n < 10 → length (digits n) ≤ 1
one_digit n small = let e : length (digits n) ≡ 1 = ap length (digits_one n small) in omega arith

-- k digits below m are k + 1 below ten times m
one_more : (m k : ℕ) → ((n : ℕ) → n < m → length (digits n) ≤ k) → (n : ℕ) → n < 10 * m → length (digits n) ≤ k + 1
one_more m k few n small = go (dec_le 10 n)
  where
    go : Dec (10 ≤ n) → length (digits n) ≤ k + 1
    go (yes more) =
        let e : length (digits n) ≡ length (digits (n / 10)) + 1 = ap length (digits_more n more) ∙ length-append (digits (n / 10)) ((48 + n % 10) ∷ []) in
        let tenth : length (digits (n / 10)) ≤ k = few (n / 10) (omega arith) in
        omega arith
    go (no less) = omega (arith, one_digit n (omega (arith, less)))

two_digits : (n : ℕ) → n < 100 → length (digits n) ≤ 2
two_digits = one_more 10 1 one_digit

pub three_digits : (n : ℕ) → n < 1000 → length (digits n) ≤ 3
three_digits = one_more 100 2 two_digits

pub four_digits : (n : ℕ) → n < 10000 → length (digits n) ≤ 4
four_digits = one_more 1000 3 three_digits

five_digits : (n : ℕ) → n < 100000 → length (digits n) ≤ 5
five_digits = one_more 10000 4 four_digits

pub six_digits : (n : ℕ) → n < 1000000 → length (digits n) ≤ 6
six_digits = one_more 100000 5 five_digits
