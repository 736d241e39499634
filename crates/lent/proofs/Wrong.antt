-- Wrong answers that the contracts of this crate rule out, each refuted on a few entries: the contract with it is false, by computation.
-- Assumes nothing.
use Prim.Native.Nat.{ℕ}
use native.Mathlib.Omega.{arith}
use mathlib.Core.Path.{◌≡◌, ap}
use mathlib.Core.List.{List, [], ◌∷◌, ◌++◌}
use lib.ListN.{get_or, take, drop}
use lib.Seq.{paste}
use Rattle.lent.specs.Lent.{zeroed}

-- ---- clear, of bytes and of words, whose contracts at the zero 0 are one (`cleared_zeroed`): two of three entries

-- one entry too many
pub cleared_too_far : 0 ∷ 0 ∷ 0 ∷ [] ≡ zeroed 2 (7 ∷ 8 ∷ 9 ∷ []) → ⊥
unfolding zeroed
cleared_too_far e = let z : ◌≡◌ {A = ℕ} 0 9 = ap (λ (xs : List ℕ). get_or xs 2 0) e in omega arith

-- the last one not
pub last_not_cleared : 0 ∷ 8 ∷ 9 ∷ [] ≡ zeroed 2 (7 ∷ 8 ∷ 9 ∷ []) → ⊥
unfolding zeroed
last_not_cleared e = let z : ◌≡◌ {A = ℕ} 8 0 = ap (λ (xs : List ℕ). get_or xs 1 0) e in omega arith

-- ---- copy_stretch, of bytes 0 and 1 to bytes 2 and 3

abbrev stretches : List ℕ
stretches = 3 ∷ 4 ∷ 0 ∷ 0 ∷ []

-- the last byte left out
pub last_byte_left_out : 3 ∷ 4 ∷ 3 ∷ 0 ∷ [] ≡ paste stretches 2 (take 2 (drop 0 stretches)) 2 → ⊥
last_byte_left_out e = let z : ◌≡◌ {A = ℕ} 0 4 = ap (λ (xs : List ℕ). get_or xs 3 9) e in omega arith

-- from the child to the parent
pub copied_back : 0 ∷ 0 ∷ 0 ∷ 0 ∷ [] ≡ paste stretches 2 (take 2 (drop 0 stretches)) 2 → ⊥
copied_back e = let z : ◌≡◌ {A = ℕ} 0 3 = ap (λ (xs : List ℕ). get_or xs 0 9) e in omega arith

-- ---- copy_out, of node 1's two bytes to an output of three

abbrev plans : List ℕ
plans = 3 ∷ 4 ∷ 5 ∷ 6 ∷ []

-- the root's stretch
pub root_copied_out : 3 ∷ 4 ∷ 9 ∷ [] ≡ take 2 (drop 2 plans) ++ drop 2 (7 ∷ 8 ∷ 9 ∷ []) → ⊥
root_copied_out e = let z : ◌≡◌ {A = ℕ} 3 5 = ap (λ (xs : List ℕ). get_or xs 0 0) e in omega arith

-- the rest of the output cleared
pub rest_cleared : 5 ∷ 6 ∷ 0 ∷ [] ≡ take 2 (drop 2 plans) ++ drop 2 (7 ∷ 8 ∷ 9 ∷ []) → ⊥
rest_cleared e = let z : ◌≡◌ {A = ℕ} 0 9 = ap (λ (xs : List ℕ). get_or xs 2 0) e in omega arith
