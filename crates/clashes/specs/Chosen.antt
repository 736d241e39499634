-- Document 01, 'The search tree', rule 5, as P3 has it: 'Chosen first: least e, then least distance of the two steps, then the earlier
-- carrier's number, then the other's; at equal steps the smaller number counts as earlier.' 'A swap at t comes after all meetings at t
-- and before those at t + 1; among swaps least i, then least j, with i < j.'
-- All that could clash is listed in that order; chosen is the first that does. A meeting has its earlier carrier first.
use Rattle.std.specs.Prelude.{ℕ, ◌+◌, Bool, true, false, not, ◌&&◌, List, ◌++◌, map, leb, ltb, eqb}
use Rattle.std.proofs.Math.Option.{Option, none, some}
use Rattle.lists.specs.Lists.{range, greatest, each, first_of}
use Rattle.clashes.specs.Clash.{Travel}
use Rattle.clashes.specs.declared.Clash.{Clash}
use Rattle.clashes.specs.declared.Clash.TheVariants.{Clear, Meeting, Swap}

-- 'at equal steps the smaller number counts as earlier'
unfoldable pub written : ℕ → ℕ → ℕ → Bool
written d i j = elim (eqb d 0) [ true ↦ ltb i j | false ↦ not (eqb i j) ]

module _ (v : Travel) where
  unfoldable pub meets : ℕ → ℕ → ℕ → ℕ → Bool
  meets i j t d = written d i j && (leb d (v.slip i) && (leb (t + d) v.horizon && eqb (v.at i t) (v.at j (t + d))))

  unfoldable pub swaps : ℕ → ℕ → ℕ → Bool
  swaps i j t = ltb i j && (eqb (v.slip i) 0 && eqb (v.slip j) 0 && (leb (t + 1) v.horizon && (eqb (v.at i t) (v.at j (t + 1)) && eqb (v.at j t) (v.at i (t + 1)))))

  unfoldable pub happens : Clash → Bool
  happens Clear = false
  happens (Meeting i j t d) = meets i j t d
  happens (Swap i j t) = swaps i j t

-- among m carriers, by i and then by j
unfoldable pub over_pairs : ℕ → (ℕ → ℕ → Clash) → List Clash
over_pairs m clash = each (λ i. map (λ j. clash i j) (range 0 m)) (range 0 m)

-- distances up to the greatest slip: no two that meet are further apart
unfoldable pub at_step : Travel → ℕ → ℕ → List Clash
at_step v m t = each (λ d. over_pairs m (λ i j. Meeting i j t d)) (range 0 (greatest m v.slip + 1)) ++ over_pairs m (λ i j. Swap i j t)

unfoldable pub candidates : Travel → ℕ → List Clash
candidates v m = each (at_step v m) (range 0 (v.horizon + 1))

unfoldable pub or_clear : Option Clash → Clash
or_clear none = Clear
or_clear (some c) = c

unfoldable pub chosen : Travel → ℕ → Clash
chosen v m = or_clear (first_of (happens v) (candidates v m))
