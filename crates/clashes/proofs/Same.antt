-- Rule 5 reads the cells of m carriers up to the horizon and nothing else: where two plans have the same cells there, the same
-- clash is chosen. Of each candidate the two tests tell the same facts.
-- Assumes nothing.
use Prim.Native.Nat.{ℕ, ◌+◌, ◌≤◌, ◌<◌}
use mathlib.Core.Path.{◌≡◌, refl, sym, ap, ◌∙◌}
use native.Mathlib.Omega.{arith}
use lib.Dec.{T}
use Rattle.lists.proofs.Passing.{first_same}
use Rattle.lists.proofs.Tests.{same_test}
use Rattle.clashes.specs.Clash.{Travel}
use Rattle.clashes.specs.Chosen.{meets, swaps, happens, at_step, candidates, or_clear, chosen}
use Rattle.clashes.specs.declared.Clash.{Clash}
use Rattle.clashes.specs.declared.Clash.TheVariants.{Clear, Meeting, Swap}
use Rattle.clashes.proofs.Tests.{meets_tells, tells_meets, swaps_tells, tells_swaps}
use Rattle.clashes.proofs.Candidates.{Listed, every_candidate}

-- the cells of m carriers up to the horizon, and the same slips
abbrev pub placing : Travel → (ℕ → ℕ → ℕ) → Travel
placing v at = record { at = at; slip = v.slip; horizon = v.horizon }

abbrev pub SameCells : (ℕ → ℕ → ℕ) → (ℕ → ℕ → ℕ) → ℕ → ℕ → Type 0
SameCells at at' h m = (i t : ℕ) → i < m → t ≤ h → at i t ≡ at' i t

module _ (v : Travel) (m i j t : ℕ) (im : i < m) (jm : j < m) where
  meets_carried : (at at' : ℕ → ℕ → ℕ) → SameCells at at' v.horizon m → (d : ℕ) → T (meets (placing v at) i j t d) → T (meets (placing v at') i j t d)
  meets_carried at at' same d test =
      let (m, less) = meets_tells (placing v at) i j t d test in
      let inside : t + d ≤ v.horizon = m.inside in
      let e = sym (same i t im (omega arith)) ∙ m.same ∙ same j (t + d) jm m.inside in
      tells_meets (placing v at') i j t d (record { two = m.two; near = m.near; inside = m.inside; same = e }) less

  swaps_carried : (at at' : ℕ → ℕ → ℕ) → SameCells at at' v.horizon m → T (swaps (placing v at) i j t) → T (swaps (placing v at') i j t)
  swaps_carried at at' same test =
      let (s, less) = swaps_tells (placing v at) i j t test in
      let inside : t + 1 ≤ v.horizon = s.inside in
      let e = sym (same i t im (omega arith)) ∙ s.there ∙ same j (t + 1) jm s.inside in
      let e₁ = sym (same j t jm (omega arith)) ∙ s.back ∙ same i (t + 1) im s.inside in
      tells_swaps (placing v at') i j t (record { two = s.two; none_slips = s.none_slips; inside = s.inside; there = e; back = e₁ }) less

module _ (v : Travel) (at' : ℕ → ℕ → ℕ) (m : ℕ) (same : SameCells v.at at' v.horizon m) where
  happens_same : (c : Clash) → Listed v m c → happens v c ≡ happens (placing v at') c
  unfolding happens Listed
  happens_same Clear listed = refl
  happens_same (Meeting i j t d) listed =
      same_test
      (meets_carried v m i j t listed.0 listed.1 v.at at' same d)
      (meets_carried v m i j t listed.0 listed.1 at' v.at (λ i t im step. sym (same i t im step)) d)
  happens_same (Swap i j t) listed =
      same_test
      (swaps_carried v m i j t listed.0 listed.1 v.at at' same)
      (swaps_carried v m i j t listed.0 listed.1 at' v.at (λ i t im step. sym (same i t im step)))

  pub chosen_same : chosen v m ≡ chosen (placing v at') m
  unfolding chosen candidates at_step
  chosen_same =
      ap or_clear (first_same (happens v) (happens (placing v at')) (candidates v m)
      (every_candidate (λ c. happens v c ≡ happens (placing v at') c) m v happens_same))
