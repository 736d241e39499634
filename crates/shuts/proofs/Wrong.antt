-- Wrong answers that the contracts of `lay_floor` and `lay_shuts` rule out, in two cells side by side. antt computes what the byte is to
-- be. Assumes nothing.
use Prim.Native.Nat.{ℕ}
use native.Mathlib.Omega.{arith}
use mathlib.Core.Path.{◌≡◌, sym, ◌∙◌}
use mathlib.Core.Bool.{true}
use mathlib.Core.List.{List, [], ◌∷◌}
use lib.ListN.{get_or}
use Rattle.hall.specs.Hall.{Hall, is_open}
use Rattle.shuts.specs.Shuts.{has_digit, aside, shut_if}
use Rattle.shuts.specs.Post.{FloorLaid, LaidAt}

abbrev both_open : Hall
both_open = record { width = 2; height = 1; bytes = 46 ∷ 46 ∷ [] }

abbrev last_closed : Hall
last_closed = record { width = 2; height = 1; bytes = 46 ∷ 35 ∷ [] }

-- ---- lay_floor

-- right left open in the last column
pub right_left_open : (before after : List ℕ) → FloorLaid both_open before after → get_or after 769 0 ≡ 0 → ⊥
unfolding shut_if aside
right_left_open before after f wrong = let z : ◌≡◌ {A = ℕ} 0 255 = sym wrong ∙ f.floor.marks 3 1 (omega arith) (omega arith) in omega arith

-- right shut in the first column of two
pub right_shut : (before after : List ℕ) → FloorLaid both_open before after → get_or after 768 0 ≡ 255 → ⊥
unfolding shut_if aside has_digit
right_shut before after f wrong = let z : ◌≡◌ {A = ℕ} 255 0 = sym wrong ∙ f.floor.marks 3 0 (omega arith) (omega arith) in omega arith

-- a stay shut
pub stay_shut : (before after : List ℕ) → FloorLaid both_open before after → get_or after 513 0 ≡ 255 → ⊥
unfolding shut_if aside has_digit
stay_shut before after f wrong = let z : ◌≡◌ {A = ℕ} 255 0 = sym wrong ∙ f.floor.marks 2 1 (omega arith) (omega arith) in omega arith

-- a closed cell left open
pub closed_left_open : (before after : List ℕ) → FloorLaid last_closed before after → get_or after 1281 0 ≡ 0 → ⊥
unfolding shut_if is_open
closed_left_open before after f wrong = let z : ◌≡◌ {A = ℕ} 0 255 = sym wrong ∙ f.floor.closed 1 (omega arith) in omega arith

-- ---- lay_shuts

-- the digit of the move down, 16, not heeded in the first cell
pub digit_not_heeded : (before after : List ℕ) → LaidAt true [] (16 ∷ []) 0 1 before after → get_or after 1024 0 ≡ 0 → ⊥
unfolding LaidAt shut_if has_digit
digit_not_heeded before after laid wrong = let z : ◌≡◌ {A = ℕ} 0 255 = sym wrong ∙ laid.marks 4 0 (omega arith) (omega arith) in omega arith
