-- Wrong answers of `Page::byte`, `Page::word` and `Page::number`, each refuted at a small page: the contract with that answer is false, by
-- computation. Assumes nothing.
use Prim.Native.Nat.{ℕ}
use native.Mathlib.Omega.{arith}
use mathlib.Core.List.{List, [], ◌∷◌}
use mathlib.Core.Path.{◌≡◌, ap}
use lib.ListN.{get_or}
use Rattle.text.specs.Text.{Page, page, put_byte, put, digits_within, digits}

-- ---- byte: its clause puts a text of one byte, which is `put_byte` (`put_one`)

-- a page of one byte has no room at 1
pub full_page_told_longer : (given : List ℕ) → page given 2 ≡ put_byte (page (0 ∷ []) 1) 65 → ⊥
unfolding put_byte
full_page_told_longer given e = let z : ◌≡◌ {A = ℕ} 2 1 = ap (λ (p : Page). p.at) e in omega arith

pub byte_written_one_place_early : (r : ℕ) → page (65 ∷ 0 ∷ []) r ≡ put_byte (page (0 ∷ 0 ∷ []) 1) 65 → ⊥
unfolding put_byte
byte_written_one_place_early r e = let z : ◌≡◌ {A = ℕ} 65 0 = ap (λ (p : Page). get_or p.bytes 0 0) e in omega arith

-- ---- word: 'ab'

pub word_written_backwards : (r : ℕ) → page (98 ∷ 97 ∷ []) r ≡ put (page (0 ∷ 0 ∷ []) 0) (97 ∷ 98 ∷ []) → ⊥
unfolding put put_byte
word_written_backwards r e = let z : ◌≡◌ {A = ℕ} 98 97 = ap (λ (p : Page). get_or p.bytes 0 0) e in omega arith

-- what fits of it is written, and not nothing
pub cut_word_left_out_whole : page (0 ∷ []) 0 ≡ put (page (0 ∷ []) 0) (97 ∷ 98 ∷ []) → ⊥
unfolding put put_byte
cut_word_left_out_whole e = let z : ◌≡◌ {A = ℕ} 0 97 = ap (λ (p : Page). get_or p.bytes 0 0) e in omega arith

-- ---- number

pub ten_printed_as_01 : (r : ℕ) → page (48 ∷ 49 ∷ []) r ≡ put (page (0 ∷ 0 ∷ []) 0) (digits 10) → ⊥
unfolding put put_byte digits digits_within
ten_printed_as_01 r e = let z : ◌≡◌ {A = ℕ} 48 49 = ap (λ (p : Page). get_or p.bytes 0 0) e in omega arith

-- the last digit for those before it
pub last_digit_twice : (r : ℕ) → page (53 ∷ 53 ∷ []) r ≡ put (page (0 ∷ 0 ∷ []) 0) (digits 45) → ⊥
unfolding put put_byte digits digits_within
last_digit_twice r e = let z : ◌≡◌ {A = ℕ} 53 52 = ap (λ (p : Page). get_or p.bytes 0 0) e in omega arith

pub zero_printed_as_nothing : page (0 ∷ []) 0 ≡ put (page (0 ∷ []) 0) (digits 0) → ⊥
unfolding put put_byte digits digits_within
zero_printed_as_nothing e = let z : ◌≡◌ {A = ℕ} 0 48 = ap (λ (p : Page). get_or p.bytes 0 0) e in omega arith
