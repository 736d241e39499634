-- The search for rule 5's clash goes through the candidates in their order. What it knows on the way is one fact: every clash
-- that happens comes at the cursor or later. One law for each step of the cursor, and two for the end of the search: the
-- cursor's clash happens, and so is the chosen one, or the cursor is past the horizon, and nothing is chosen.
-- Assumes nothing.
use Prim.Native.Nat.{ℕ, ◌+◌, ◌-◌, ◌≤◌, ◌<◌, min}
use mathlib.Core.Path.{◌≡◌, refl, sym, ◌∙◌}
use mathlib.Core.Option.{Option, none, some}
use native.Mathlib.Omega.{arith}
use native.Mathlib.Decide.{ℕ_discrete}
use lib.Dec.{T}
use Rattle.lists.specs.Lists.{greatest, first_of}
use Rattle.lists.proofs.Passing.{FirstFact}
use Rattle.clashes.specs.Clash.{Travel}
use Rattle.clashes.specs.Chosen.{meets, happens, candidates, or_clear, chosen}
use Rattle.clashes.specs.Find.{first_other, FirstSwap}
use Rattle.clashes.specs.First.{NotLater}
use Rattle.clashes.specs.declared.Clash.{Clash}
use Rattle.clashes.specs.declared.Clash.TheVariants.{Clear, Meeting, Swap}
use Rattle.clashes.proofs.Tests.{meets_tells}
use Rattle.clashes.proofs.Compared.{other_now, other_later}
use Rattle.clashes.proofs.Candidates.{Listed, first_passed}
use Rattle.clashes.proofs.First.{first_chosen}

module _ (v : Travel) (m : ℕ) where
  -- every clash that happens comes at c or later
  unfoldable pub From : Clash → Type 0
  From c = (c' : Clash) → Listed v m c' → T (happens v c') → NotLater c c'

  pub from_start : From (Meeting 0 0 0 0)
  unfolding From NotLater happens
  from_start Clear listed test = absurd test
  from_start (Meeting i j t d) listed test = omega arith
  from_start (Swap i j t) listed test = omega arith

  module _ (t d : ℕ) where
    -- at equal steps the other has the greater number
    pub from_others : (i : ℕ) → From (Meeting i 0 t d) → From (Meeting i (first_other i d) t d)
    unfolding From NotLater happens
    from_others i from Clear listed test = absurd test
    from_others i from (Meeting i' j' t' d') listed test =
        let f = from (Meeting i' j' t' d') listed test in
        (f.0, f.1, f.2, λ e₀ e₁ e₂. above e₁ e₂ (meets_tells v i' j' t' d' test).1)
      where
        above : d ≡ d' → i ≡ i' → (d' ≡ 0 → i' < j') → first_other i d ≤ j'
        above e₁ e₂ less =
            elim (ℕ_discrete d 0) [
              | yes z ↦ omega (arith, other_now i d z, less (sym e₁ ∙ z))
              | no later ↦ omega (arith, other_later i d later)
            ]
    from_others i from (Swap i' j' t') listed test = from (Swap i' j' t') listed test

    pub from_next_second : (i j : ℕ) → (T (meets v i j t d) → ⊥) → From (Meeting i j t d) → From (Meeting i (j + 1) t d)
    unfolding From NotLater happens
    from_next_second i j fails from Clear listed test = absurd test
    from_next_second i j fails from (Meeting i' j' t' d') listed test =
        let f = from (Meeting i' j' t' d') listed test in
        (f.0, f.1, f.2, λ e₀ e₁ e₂. later e₀ e₁ e₂ (f.3 e₀ e₁ e₂))
      where
        later : t ≡ t' → d ≡ d' → i ≡ i' → j ≤ j' → j + 1 ≤ j'
        later e₀ e₁ e₂ le =
            elim (ℕ_discrete j j') [
              | yes e₃ ↦ absurd (fails (rw (e₀, e₁, e₂, e₃) test))
              | no ne ↦ omega arith
            ]
    from_next_second i j fails from (Swap i' j' t') listed test = from (Swap i' j' t') listed test

    pub from_next_first : (i : ℕ) → From (Meeting i m t d) → From (Meeting (i + 1) 0 t d)
    unfolding From NotLater happens Listed
    from_next_first i from Clear listed test = absurd test
    from_next_first i from (Meeting i' j' t' d') listed test =
        let f = from (Meeting i' j' t' d') listed test in
        (f.0, f.1, λ e₀ e₁. later (f.2 e₀ e₁) (f.3 e₀ e₁), λ e₀ e₁ e₂. omega arith)
      where
        later : i ≤ i' → (i ≡ i' → m ≤ j') → i + 1 ≤ i'
        later le last =
            elim (ℕ_discrete i i') [ yes e ↦ let past : m ≤ j' = last e in absurd (omega arith) | no ne ↦ omega arith ]
    from_next_first i from (Swap i' j' t') listed test = from (Swap i' j' t') listed test

    pub from_next_distance : From (Meeting m 0 t d) → From (Meeting 0 0 t (d + 1))
    unfolding From NotLater happens Listed
    from_next_distance from Clear listed test = absurd test
    from_next_distance from (Meeting i' j' t' d') listed test =
        let f = from (Meeting i' j' t' d') listed test in
        (f.0, λ e₀. later (f.1 e₀) (f.2 e₀), λ e₀ e₁. omega arith, λ e₀ e₁ e₂. omega arith)
      where
        later : d ≤ d' → (d ≡ d' → m ≤ i') → d + 1 ≤ d'
        later le last =
            elim (ℕ_discrete d d') [ yes e ↦ let past : m ≤ i' = last e in absurd (omega arith) | no ne ↦ omega arith ]
    from_next_distance from (Swap i' j' t') listed test = from (Swap i' j' t') listed test

  module _ (t : ℕ) where
    -- no distance is left at t: none is beyond the greatest slip, and 'both steps at most H'
    pub from_swaps : (d : ℕ) → d ≡ min (greatest m v.slip) (v.horizon - t) + 1 → From (Meeting 0 0 t d) → From (Swap 0 0 t)
    unfolding From NotLater happens Listed
    from_swaps d e from Clear listed test = absurd test
    from_swaps d e from (Meeting i' j' t' d') listed test =
        let f = from (Meeting i' j' t' d') listed test in
        later f.0 f.1 (meets_tells v i' j' t' d' test).0.inside listed.3
      where
        later : t ≤ t' → (t ≡ t' → d ≤ d') → t' + d' ≤ v.horizon → d' ≤ greatest m v.slip → t < t'
        later le last inside near =
            elim (ℕ_discrete t t') [ yes e₀ ↦ let past : d ≤ d' = last e₀ in absurd (omega arith) | no ne ↦ omega arith ]
    from_swaps d e from (Swap i' j' t') listed test =
        let le : t ≤ t' = from (Swap i' j' t') listed test in (le, λ e₀. omega arith, λ e₀ e₁. omega arith)

    no_swap_at : FirstSwap v m t Clear → From (Swap 0 0 t) → From (Meeting 0 0 (t + 1) 0)
    unfolding From NotLater happens Listed FirstSwap
    no_swap_at fails from Clear listed test = absurd test
    no_swap_at fails from (Meeting i' j' t' d') listed test = let f : t < t' = from (Meeting i' j' t' d') listed test in omega arith
    no_swap_at fails from (Swap i' j' t') listed test =
        let f = from (Swap i' j' t') listed test in
        elim (ℕ_discrete t t') [ yes e ↦ absurd (fails i' j' listed.0 listed.1 (rw e test)) | no ne ↦ omega arith ]

    pub from_next_step : (c : Clash) → ((x y u : ℕ) → c ≡ Swap x y u → ⊥) → FirstSwap v m t c → From (Swap 0 0 t) → From (Meeting 0 0 (t + 1) 0)
    unfolding FirstSwap
    from_next_step Clear e first from = no_swap_at first from
    from_next_step (Meeting i j u d) e first from = absurd first
    from_next_step (Swap i j u) n first from = absurd (n i j u refl)

  -- ---- the end of the search

  pub from_meeting : (i j t d : ℕ) → i < m → j < m → t ≤ v.horizon → d ≤ greatest m v.slip → T (meets v i j t d) → From (Meeting i j t d) → Meeting i j t d ≡ chosen v m
  unfolding From happens Listed
  from_meeting i j t d im jm step near test from = sym (first_chosen v m (Meeting i j t d) (im, jm, step, near) test from)

  pub from_swap : (t : ℕ) → t ≤ v.horizon → (c : Clash) (x y w : ℕ) → c ≡ Swap x y w → FirstSwap v m t c → From (Swap 0 0 t) → c ≡ chosen v m
  unfolding From happens Listed FirstSwap NotLater
  from_swap t step Clear x y w e first from = cc
  from_swap t step (Meeting i j u d) x y w e first from = absurd first
  from_swap t step (Swap i j u) x y w e first from =
      let now : u ≡ t = first.0 in
      rw now (sym (first_chosen v m (Swap i j t) (first.1, first.2, step) first.3 sooner))
    where
      sooner : (c' : Clash) → Listed v m c' → T (happens v c') → NotLater (Swap i j t) c'
      sooner Clear listed test = absurd test
      sooner (Meeting i' j' t' d') listed test = from (Meeting i' j' t' d') listed test
      sooner (Swap i' j' t') listed test =
          ((from (Swap i' j' t') listed test).0, λ e. (first.4 i' j' listed.0 listed.1 (rw e test)).0, λ e. (first.4 i' j' listed.0 listed.1 (rw e test)).1)

  pub from_end : From (Meeting 0 0 (v.horizon + 1) 0) → Clear ≡ chosen v m
  unfolding chosen From FirstFact or_clear Listed NotLater
  from_end from = go (first_of (happens v) (candidates v m)) (first_passed v m)
    where
      past : (c : Clash) → Listed v m c → NotLater (Meeting 0 0 (v.horizon + 1) 0) c → ⊥
      past Clear listed later = listed
      past (Meeting i j t d) listed later = omega arith
      past (Swap i j t) listed later = omega arith

      go : (o : Option Clash) → FirstFact (happens v) (Listed v m) (candidates v m) o → Clear ≡ or_clear o
      go none fails = refl
      go (some c) passed = absurd (past c passed.1 (from c passed.1 passed.0))
