-- With every slip k rule 5 lists and chooses what it did with one k: the greatest slip is k, and of each candidate the tests say the
-- same. And the tests with one k say document 01's words. Assumes nothing.
use Prim.Native.Nat.{ℕ, zero, suc, ◌+◌, ◌≤◌, ◌<◌}
use native.Mathlib.Omega.{arith}
use mathlib.Core.Path.{◌≡◌, refl, sym, ap, ap₂, subst, ◌∙◌}
use mathlib.Core.Bool.{Bool, true, false, ◌&&◌}
use mathlib.Core.List.{List, [], ◌∷◌, ◌++◌}
use mathlib.Core.Logic.{◌↔◌}
use lib.Dec.{T, leb, ltb, eqb}
use Rattle.lists.specs.Lists.{range, greatest, each, first_of}
use Rattle.lists.proofs.Greatest.{greatest_above, greatest_below}
use Rattle.lists.proofs.Passing.{first_same}
use Rattle.clashes.specs.Clash.{Travel}
use Rattle.clashes.specs.Chosen.{written, meets, swaps, happens, over_pairs, at_step, candidates, or_clear, chosen}
use Rattle.clashes.specs.declared.Clash.{Clash}
use Rattle.clashes.specs.declared.Clash.TheVariants.{Clear, Meeting, Swap}
use Rattle.clashes.proofs.Candidates.{Listed, every_candidate}
use Rattle.clashes.proofs.Tests.{meets_tells, tells_meets, swaps_tells, tells_swaps}
use Rattle.equal_slips.specs.Clash.{MeetsByK, SwapsByK, written_by_k, meets_by_k, swaps_by_k, happens_by_k, pairs_by_k, step_by_k, candidates_by_k, or_clear_by_k, chosen_by_k}

twice : (b rest : Bool) → (b && b && rest) ≡ (b && rest)
twice true rest = refl
twice false rest = refl

-- ---- the list

each_nothing : {A B : Type 0} (f : A → List B) → ((x : A) → f x ≡ []) → (xs : List A) → each f xs ≡ []
unfolding each
each_nothing f nothing [] = refl
each_nothing f nothing (x ∷ xs) = ap₂ (λ (ys zs : List _). ys ++ zs) (nothing x) (each_nothing f nothing xs)

-- where there is no carrier nothing is listed
nobody_listed : (k h : ℕ) → candidates_by_k k h 0 ≡ []
unfolding candidates_by_k step_by_k pairs_by_k range each
nobody_listed k h =
    each_nothing (step_by_k k 0) (λ t. ap (λ (ys : List Clash). ys ++ []) (each_nothing (λ d. pairs_by_k 0 (λ i j. Meeting i j t d)) (λ d. refl) (range 0 (k + 1)))) (range 0 (h + 1))

module _ (v : Travel) (k : ℕ) where
  greatest_equal : (m : ℕ) → 0 < m → ((i : ℕ) → i < m → v.slip i ≡ k) → greatest m v.slip ≡ k
  greatest_equal m any equal =
      let first : v.slip 0 ≡ k = equal 0 any in
      let above : v.slip 0 ≤ greatest m v.slip = greatest_above m v.slip 0 any in
      let below : greatest m v.slip ≤ k = greatest_below m v.slip k (λ i l. omega (arith, equal i l)) in
      omega arith

  candidates_same : (m : ℕ) → ((i : ℕ) → i < m → v.slip i ≡ k) → candidates v m ≡ candidates_by_k k v.horizon m
  unfolding candidates at_step over_pairs candidates_by_k step_by_k pairs_by_k
  candidates_same zero equal = nobody_listed (greatest 0 v.slip) v.horizon ∙ sym (nobody_listed k v.horizon)
  candidates_same (suc m) equal = ap (λ (most : ℕ). candidates_by_k most v.horizon (suc m)) (greatest_equal (suc m) (omega arith) equal)

-- ---- the tests, and the choice

module _ (v : Travel) (k m : ℕ) (equal : (i : ℕ) → i < m → v.slip i ≡ k) where
  happens_same : (c : Clash) → Listed v m c → happens v c ≡ happens_by_k v.at k v.horizon c
  unfolding happens happens_by_k meets meets_by_k swaps swaps_by_k written written_by_k Listed
  happens_same Clear listed = refl
  happens_same (Meeting i j t d) listed =
      ap (λ (slip : ℕ). written d i j && (leb d slip && (leb (t + d) v.horizon && eqb (v.at i t) (v.at j (t + d))))) (equal i listed.0)
  happens_same (Swap i j t) listed =
      let exchanged : Bool = leb (t + 1) v.horizon && (eqb (v.at i t) (v.at j (t + 1)) && eqb (v.at j t) (v.at i (t + 1))) in
      ap₂ (λ (one other : ℕ). ltb i j && (eqb one 0 && eqb other 0 && exchanged)) (equal i listed.0) (equal j listed.1)
      ∙ ap (λ (b : Bool). ltb i j && b) (twice (eqb k 0) exchanged)

  pub chosen_same : chosen v m ≡ chosen_by_k v.at k v.horizon m
  unfolding chosen chosen_by_k or_clear or_clear_by_k
  chosen_same =
      ap or_clear
      (first_same (happens v) (happens_by_k v.at k v.horizon) (candidates v m)
      (every_candidate (λ c. happens v c ≡ happens_by_k v.at k v.horizon c) m v happens_same)
      ∙ ap (first_of (happens_by_k v.at k v.horizon)) (candidates_same v k m equal))

-- ---- the tests in words

module _ (at : ℕ → ℕ → ℕ) (k h : ℕ) where
  abbrev all : Travel
  all = record { at = at; slip = λ i. k; horizon = h }

  pub meeting_in_words : (i j t d : ℕ) → T (meets_by_k at k h i j t d) ↔ (MeetsByK at k h i j t d × (d ≡ 0 → i < j))
  unfolding meets_by_k meets written_by_k written
  meeting_in_words i j t d = (
    λ test. let (m, less) = meets_tells all i j t d test in
        let inside : t + d ≤ h = m.inside in
        (record { two = m.two; near = m.near; inside = (omega arith, inside); same = m.same }, less),
    λ f. tells_meets all i j t d (record { two = f.0.two; near = f.0.near; inside = f.0.inside.1; same = f.0.same }) f.1,
  )

  pub swap_in_words : (i j t : ℕ) → T (swaps_by_k at k h i j t) ↔ (SwapsByK at k h i j t × (i < j))
  unfolding swaps_by_k swaps
  swap_in_words i j t =
      let exchanged : Bool = leb (t + 1) h && (eqb (at i t) (at j (t + 1)) && eqb (at j t) (at i (t + 1))) in
      let same : swaps all i j t ≡ swaps_by_k at k h i j t = ap (λ (b : Bool). ltb i j && b) (twice (eqb k 0) exchanged) in (
        λ test. let (s, less) = swaps_tells all i j t (subst T (sym same) test) in
            (record { two = s.two; no_delay = s.none_slips.0; inside = s.inside; there = s.there; back = s.back }, less),
        λ f. subst T same (tells_swaps all i j t (record { two = f.0.two; none_slips = (f.0.no_delay, f.0.no_delay); inside = f.0.inside; there = f.0.there; back = f.0.back }) f.1),
      )
