-- The dictionary's order: no list comes after itself, and two that do not come after one another are one. By induction on
-- both lists at once.
-- Assumes nothing.
use Prim.Native.Nat.{ℕ, ◌<◌}
use mathlib.Core.Path.{◌≡◌, refl}
use mathlib.Core.Logic.{◌⊎◌, inl, inr}
use mathlib.Core.List.{List, [], ◌∷◌}
use native.Mathlib.Omega.{arith}
use Rattle.routes.specs.Best.{NotAfter}

pub not_after_itself : (r : List ℕ) → NotAfter r r
unfolding NotAfter
not_after_itself [] = tt
not_after_itself (v ∷ r) = inr (refl, not_after_itself r)

pub not_after_antisymmetric : (r s : List ℕ) → NotAfter r s → NotAfter s r → r ≡ s
unfolding NotAfter
not_after_antisymmetric [] [] p q = refl
not_after_antisymmetric [] (y ∷ s) p q = absurd q
not_after_antisymmetric (x ∷ r) [] p q = absurd p
not_after_antisymmetric (x ∷ r) (y ∷ s) p q = go p q (not_after_antisymmetric r s)
  where
    go : (x < y) ⊎ ((x ≡ y) × NotAfter r s) → (y < x) ⊎ ((y ≡ x) × NotAfter s r) → (NotAfter r s → NotAfter s r → r ≡ s) → x ∷ r ≡ y ∷ s
    go (inl l) (inl k) rest = absurd (omega arith)
    go (inl l) (inr k) rest = let e : y ≡ x = k.0 in absurd (omega arith)
    go (inr l) (inl k) rest = let e : x ≡ y = l.0 in absurd (omega arith)
    go (inr l) (inr k) rest = let e : x ≡ y = l.0 in let f : r ≡ s = rest l.1 k.1 in cc
