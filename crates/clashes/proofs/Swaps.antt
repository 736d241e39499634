-- The search for the first swap at a step goes by i and then by j. What it knows on the way is that every swap comes at its
-- two numbers or later; one law for each way in which the two go on, and one for each end.
-- Assumes nothing.
use Prim.Native.Nat.{ℕ, ◌+◌, ◌≤◌, ◌<◌}
use mathlib.Core.Path.{◌≡◌, refl, sym, ◌∙◌}
use mathlib.Core.Bool.{Bool, true, false}
use native.Mathlib.Omega.{arith}
use native.Mathlib.Decide.{ℕ_discrete}
use lib.Dec.{T}
use Rattle.lists.proofs.Tests.{of_true, of_false}
use Rattle.clashes.specs.Clash.{Travel}
use Rattle.clashes.specs.Chosen.{swaps}
use Rattle.clashes.specs.Find.{FirstSwap}
use Rattle.clashes.specs.declared.Clash.TheVariants.{Clear, Swap}
use Rattle.clashes.proofs.Tests.{swaps_tells}

module _ (v : Travel) (m t : ℕ) where
  -- every swap at t comes at i and j or later
  unfoldable pub SwapsFrom : ℕ → ℕ → Type 0
  SwapsFrom i j = (i' j' : ℕ) → i' < m → j' < m → T (swaps v i' j' t) → (i ≤ i') × (i ≡ i' → j ≤ j')

  pub swaps_start : SwapsFrom 0 0
  unfolding SwapsFrom
  swaps_start i' j' im jm test = (omega arith, λ e. omega arith)

  -- 'with i < j'
  pub swaps_above : (i : ℕ) → SwapsFrom i 0 → SwapsFrom i (i + 1)
  unfolding SwapsFrom
  swaps_above i from i' j' im jm test =
      let less : i' < j' = (swaps_tells v i' j' t test).1 in
      ((from i' j' im jm test).0, λ e. omega arith)

  pub swaps_next_second : (i j : ℕ) (r : Bool) → r ≡ swaps v i j t → r ≡ false → SwapsFrom i j → SwapsFrom i (j + 1)
  unfolding SwapsFrom
  swaps_next_second i j r says e from i' j' im jm test = ((from i' j' im jm test).0, λ e₀. later e₀ ((from i' j' im jm test).1 e₀))
    where
      later : i ≡ i' → j ≤ j' → j + 1 ≤ j'
      later e₀ le = elim (ℕ_discrete j j') [ yes e₁ ↦ absurd (of_false (sym says ∙ e) (rw (e₀, e₁) test)) | no ne ↦ omega arith ]

  pub swaps_next_first : (i j : ℕ) → m ≤ j → SwapsFrom i j → SwapsFrom (i + 1) 0
  unfolding SwapsFrom
  swaps_next_first i j over from i' j' im jm test = (later (from i' j' im jm test).0 (from i' j' im jm test).1, λ e. omega arith)
    where
      later : i ≤ i' → (i ≡ i' → j ≤ j') → i + 1 ≤ i'
      later le last = elim (ℕ_discrete i i') [ yes e ↦ let past : j ≤ j' = last e in absurd (omega arith) | no ne ↦ omega arith ]

  -- ---- the end of the search

  pub swaps_found : (i j : ℕ) (r : Bool) → i < m → j < m → r ≡ swaps v i j t → r ≡ true → SwapsFrom i j → FirstSwap v m t (Swap i j t)
  unfolding SwapsFrom FirstSwap
  swaps_found i j r im jm says e from = (refl, im, jm, of_true (sym says ∙ e), from)

  pub swaps_end : (i : ℕ) → m ≤ i → SwapsFrom i 0 → FirstSwap v m t Clear
  unfolding SwapsFrom FirstSwap
  swaps_end i over from i' j' im jm test = let le : i ≤ i' = (from i' j' im jm test).0 in omega arith

  pub swaps_past : v.horizon ≤ t → FirstSwap v m t Clear
  unfolding FirstSwap
  swaps_past over i' j' im jm test = let inside : t + 1 ≤ v.horizon = (swaps_tells v i' j' t test).0.inside in omega arith
