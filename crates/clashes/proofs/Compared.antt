-- What the code compares, as the tests of rule 5: of two tests that tell the same facts each passes where the other does.
-- Assumes nothing.
use Prim.Native.Nat.{ℕ, ◌+◌, ◌≤◌, ◌<◌}
use mathlib.Core.Path.{◌≡◌, sym}
use mathlib.Core.Logic.{◌⊎◌, inl, inr}
use mathlib.Core.Bool.{false, not}
use native.Mathlib.Omega.{arith}
use native.Mathlib.Decide.{ℕ_discrete}
use lib.Dec.{eqb, eqb→eq, T_not, not_T}
use borrow.Author.Tests.{eq-eqb, ne_eqb}
use Rattle.lists.proofs.Tests.{is_false, of_true, same_test}
use Rattle.clashes.specs.Clash.{Travel}
use Rattle.clashes.specs.Chosen.{meets, swaps}
use Rattle.clashes.specs.Find.{first_other}
use Rattle.clashes.proofs.Tests.{meets_tells, tells_meets, swaps_tells, tells_swaps}

module _ (v : Travel) (i j t : ℕ) where
  -- ---- meetings

  module _ (d : ℕ) where
    pub meets_far : v.slip i < d → false ≡ meets v i j t d
    meets_far far = sym (is_false (λ test. let near : d ≤ v.slip i = (meets_tells v i j t d test).0.near in omega arith))

    pub meets_apart : (v.at i t ≡ v.at j (t + d) → ⊥) → false ≡ meets v i j t d
    meets_apart ne = sym (is_false (λ test. ne (meets_tells v i j t d test).0.same))

    pub meets_there : d ≤ v.slip i → t + d ≤ v.horizon → v.at i t ≡ v.at j (t + d) → (d ≡ 0 → i < j) → not (eqb i j) ≡ meets v i j t d
    meets_there near inside same less =
        same_test
        (λ n. tells_meets v i j t d (record { two = λ e. T_not (eqb i j) n (of_true (eq-eqb i j e)); near = near; inside = inside; same = same }) less)
        (λ test. not_T (eqb i j) (λ e. (meets_tells v i j t d test).0.two (eqb→eq i j e)))

  -- ---- swaps

  pub swaps_apart : (v.at i t ≡ v.at j (t + 1) → ⊥) ⊎ (v.at j t ≡ v.at i (t + 1) → ⊥) → false ≡ swaps v i j t
  swaps_apart (inl ne) = sym (is_false (λ test. ne (swaps_tells v i j t test).0.there))
  swaps_apart (inr ne) = sym (is_false (λ test. ne (swaps_tells v i j t test).0.back))

  pub swaps_slipping : (v.slip i ≡ 0 → ⊥) → false ≡ swaps v i j t
  swaps_slipping slips = sym (is_false (λ test. slips (swaps_tells v i j t test).0.none_slips.0))

  pub swaps_still : i < j → t + 1 ≤ v.horizon → v.at i t ≡ v.at j (t + 1) → v.at j t ≡ v.at i (t + 1) → v.slip i ≡ 0 → eqb (v.slip j) 0 ≡ swaps v i j t
  swaps_still less inside there back still =
      same_test
      (λ e. tells_swaps v i j t (record { two = λ q. omega arith; none_slips = (still, eqb→eq (v.slip j) 0 e); inside = inside; there = there; back = back }) less)
      (λ test. of_true (eq-eqb (v.slip j) 0 (swaps_tells v i j t test).0.none_slips.1))

-- ---- the other of a meeting

pub other_now : (i d : ℕ) → d ≡ 0 → first_other i d ≡ i + 1
unfolding first_other
other_now i d z = rw (eq-eqb d 0 z, first_other)

pub other_later : (i d : ℕ) → (d ≡ 0 → ⊥) → first_other i d ≡ 0
unfolding first_other
other_later i d later = rw (ne_eqb d 0 later, first_other)

pub other_within : (i d m : ℕ) → i < m → first_other i d ≤ m
other_within i d m less = elim (ℕ_discrete d 0) [ yes z ↦ omega (arith, other_now i d z) | no later ↦ omega (arith, other_later i d later) ]
