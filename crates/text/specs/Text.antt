-- What a lent buffer holds after a text was written into it: byte after byte from a place on, and what does not fit is left out.
use Rattle.std.specs.Prelude.{ℕ, zero, suc, ◌+◌, ◌/◌, ◌%◌, true, false, List, [], ◌∷◌, ◌++◌, ltb, length, set}

-- the buffer, and the place at which the next byte goes
pub record Page : Type 0 where
  pub bytes : List ℕ
  pub at : ℕ

abbrev pub page : List ℕ → ℕ → Page
page bytes at = record { bytes = bytes; at = at }

unfoldable pub put_byte : Page → ℕ → Page
put_byte p b = elim (ltb p.at (length p.bytes)) [ true ↦ page (set p.bytes p.at b) (p.at + 1) | false ↦ p ]

unfoldable pub put : Page → List ℕ → Page
put p [] = p
put p (b ∷ text) = put (put_byte p b) text

-- the digits of n in decimal, the first not 0 but for 0 itself; `turns` above n are enough
unfoldable pub digits_within : ℕ → ℕ → List ℕ
digits_within zero n = []
digits_within (suc turns) n = elim (ltb n 10) [ true ↦ (48 + n) ∷ [] | false ↦ digits_within turns (n / 10) ++ ((48 + n % 10) ∷ []) ]

unfoldable pub digits : ℕ → List ℕ
digits n = digits_within (suc n) n
