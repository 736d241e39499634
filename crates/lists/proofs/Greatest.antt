-- The greatest of some numbers is at least each of them, and at most what all of them are at most. Assumes nothing.
use Prim.Native.Nat.{ℕ, zero, suc, ◌≤◌, ◌<◌}
use native.Mathlib.Omega.{arith}
use native.Mathlib.Decide.{ℕ_discrete}
use mathlib.Core.Path.{◌≡◌, ap}
use Rattle.lists.specs.Lists.{greatest}

pub greatest_above : (n : ℕ) (f : ℕ → ℕ) (i : ℕ) → i < n → f i ≤ greatest n f
unfolding greatest
greatest_above zero f i l = absurd (omega arith)
greatest_above (suc n) f i l =
    elim (ℕ_discrete i n) [
      | yes e ↦ let same : f i ≡ f n = ap f e in omega arith
      | no other ↦ let rest : f i ≤ greatest n f = greatest_above n f i (omega (arith, other)) in omega arith
    ]

pub greatest_below : (n : ℕ) (f : ℕ → ℕ) (b : ℕ) → ((i : ℕ) → i < n → f i ≤ b) → greatest n f ≤ b
unfolding greatest
greatest_below zero f b all = omega arith
greatest_below (suc n) f b all =
    let rest : greatest n f ≤ b = greatest_below n f b (λ i l. all i (omega arith)) in
    let last : f n ≤ b = all n (omega arith) in
    omega arith
