-- Document 01, 'Routes, costs, meetings' and rule 5 of 'The search tree', with one k for all carriers. `at i t` is the cell of carrier i
-- at step t, k the delay bound, h the horizon.
use Rattle.std.specs.Prelude.{ℕ, ◌+◌, ◌≤◌, ◌≡◌, Bool, true, false, not, ◌&&◌, List, ◌++◌, map, leb, ltb, eqb}
use Rattle.std.proofs.Math.Option.{Option, none, some}
use Rattle.lists.specs.Lists.{range, each, first_of}
use Rattle.clashes.specs.declared.Clash.{Clash}
use Rattle.clashes.specs.declared.Clash.TheVariants.{Clear, Meeting, Swap}

-- ---- in words

module _ (at : ℕ → ℕ → ℕ) (k h : ℕ) where
  -- 'Carriers i and j (i not j) have a k-delay meeting (i, j, t, D) if i at step t and j at step t + D are on the same cell, D from 0 to
  -- k, both steps at most H.'
  pub record MeetsByK (i j t d : ℕ) : Type 0 where
    pub two : i ≡ j → ⊥
    pub near : d ≤ k
    pub inside : (t ≤ h) × (t + d ≤ h)
    pub same : at i t ≡ at j (t + d)

  -- 'For k = 0 there is also a swap at t: between t and t + 1 the two exchange neighbouring cells. For k of 1 or more a swap is already
  -- a meeting.' The meeting check counts an exchange 'whether the two are neighbouring or not', and so does this.
  pub record SwapsByK (i j t : ℕ) : Type 0 where
    pub two : i ≡ j → ⊥
    pub no_delay : k ≡ 0
    pub inside : t + 1 ≤ h
    pub there : at i t ≡ at j (t + 1)
    pub back : at j t ≡ at i (t + 1)

-- ---- as tests, and rule 5's choice

-- 'For D = 0 write the smaller number first.'
unfoldable pub written_by_k : ℕ → ℕ → ℕ → Bool
written_by_k d i j = elim (eqb d 0) [ true ↦ ltb i j | false ↦ not (eqb i j) ]

-- 'among swaps least i, then least j, with i < j'
module _ (at : ℕ → ℕ → ℕ) (k h : ℕ) where
  unfoldable pub meets_by_k : ℕ → ℕ → ℕ → ℕ → Bool
  meets_by_k i j t d = written_by_k d i j && (leb d k && (leb (t + d) h && eqb (at i t) (at j (t + d))))

  unfoldable pub swaps_by_k : ℕ → ℕ → ℕ → Bool
  swaps_by_k i j t = ltb i j && (eqb k 0 && (leb (t + 1) h && (eqb (at i t) (at j (t + 1)) && eqb (at j t) (at i (t + 1)))))

  unfoldable pub happens_by_k : Clash → Bool
  happens_by_k Clear = false
  happens_by_k (Meeting i j t d) = meets_by_k i j t d
  happens_by_k (Swap i j t) = swaps_by_k i j t

-- among m carriers, by i and then by j
unfoldable pub pairs_by_k : ℕ → (ℕ → ℕ → Clash) → List Clash
pairs_by_k m clash = each (λ i. map (λ j. clash i j) (range 0 m)) (range 0 m)

-- 'A swap at t comes after all meetings at t and before those at t + 1'; 'D from 0 to k'
unfoldable pub step_by_k : ℕ → ℕ → ℕ → List Clash
step_by_k k m t = each (λ d. pairs_by_k m (λ i j. Meeting i j t d)) (range 0 (k + 1)) ++ pairs_by_k m (λ i j. Swap i j t)

-- 'least t, then least D, then least i, then least j'
unfoldable pub candidates_by_k : ℕ → ℕ → ℕ → List Clash
candidates_by_k k h m = each (step_by_k k m) (range 0 (h + 1))

unfoldable pub or_clear_by_k : Option Clash → Clash
or_clear_by_k none = Clear
or_clear_by_k (some c) = c

-- 'Otherwise choose one meeting'
unfoldable pub chosen_by_k : (ℕ → ℕ → ℕ) → ℕ → ℕ → ℕ → Clash
chosen_by_k at k h m = or_clear_by_k (first_of (happens_by_k at k h) (candidates_by_k k h m))
