-- Wrong turns of the definitions of meetings and holds, and wrong answers of `first_clash`, each refuted at a small plan: antt computes
-- what the definition says there. Assumes nothing.
use Prim.Native.Nat.{ℕ}
use native.Mathlib.Omega.{arith}
use mathlib.Core.Path.{◌≡◌, sym, ap}
use mathlib.Core.Bool.{true, false, true≢false}
use mathlib.Core.List.{[], ◌∷◌}
use lib.Dec.{eqb}
use Rattle.lists.specs.Lists.{range, greatest, each, first_of}
use Rattle.job.specs.declared.Team.{Team}
use Rattle.clashes.specs.Clash.{Travel}
use Rattle.clashes.specs.Chosen.{written, meets, swaps, happens, over_pairs, at_step, candidates, or_clear, chosen}
use Rattle.clashes.specs.Find.{first_clash}
use Rattle.clashes.specs.Holds.{done_by, place_at}
use Rattle.clashes.specs.declared.Clash.{Clash}
use Rattle.clashes.specs.declared.Clash.TheVariants.{Clear, Meeting, Swap}

-- ---- the definitions

-- only the lower number as the earlier carrier: 1 comes before 0 at distance 1
pub lower_number_earlier : false ≡ written 1 1 0 → ⊥
unfolding written
lower_number_earlier e = true≢false (sym e)

-- the last step, 2, not compared: both carriers stand on cell 5
pub last_step_not_compared : false ≡ meets (record { at = λ i t. 5; slip = λ i. 0; horizon = 2 }) 0 1 2 0 → ⊥
unfolding meets written
last_step_not_compared e = true≢false (sym e)

-- carrier i is on cell i, and on the other's a step later
abbrev exchange : (ℕ → ℕ) → Travel
exchange slip = record { at = λ i t. elim (eqb i t) [ true ↦ 0 | false ↦ 1 ]; slip = slip; horizon = 1 }

-- an exchange of cells left out
pub swap_left_out : false ≡ happens (exchange (λ i. 0)) (Swap 0 1 0) → ⊥
unfolding happens swaps
swap_left_out e = true≢false (sym e)

-- a swap where only one of the two has slip 0: carrier i may slip i steps
pub swap_where_one_slips : true ≡ swaps (exchange (λ i. i)) 0 1 0 → ⊥
unfolding swaps
swap_where_one_slips e = true≢false e

-- gone on past the horizon, which is 1, at the fifth real moment
pub past_the_horizon : 5 ≡ place_at (record { at = λ i t. t; slip = λ i. 0; horizon = 1 }) (λ i n. false) 0 5 → ⊥
unfolding place_at done_by
past_the_horizon e = let z : ◌≡◌ {A = ℕ} 5 1 = e in omega arith

-- ---- first_clash, of two carriers with H 1

-- two carriers of these slips; their ends are not looked at
abbrev two : ℕ → ℕ → Team
two one other = record { starts = []; goals = []; slips = one ∷ other ∷ []; count = 2 }

-- which carrier comes first, with a mark for the kind
abbrev who : Clash → ℕ
who Clear = 9
who (Meeting i j t d) = i
who (Swap i j t) = 5

-- both are on cell 2 at the last step: it is not looked at
pub last_step_not_looked_at : Clear ≡ first_clash (0 ∷ 2 ∷ 1 ∷ 2 ∷ []) (two 0 0) 1 → ⊥
unfolding chosen or_clear candidates at_step over_pairs happens meets swaps written range greatest each first_of
last_step_not_looked_at e = let z : ◌≡◌ {A = ℕ} 9 0 = ap who e in omega arith

-- carrier 0 comes to cell 1 a step after carrier 1 was there: the greatest distance is not looked at
pub last_distance_not_looked_at : Clear ≡ first_clash (0 ∷ 1 ∷ 1 ∷ 2 ∷ []) (two 1 1) 1 → ⊥
unfolding chosen or_clear candidates at_step over_pairs happens meets swaps written range greatest each first_of
last_distance_not_looked_at e = let z : ◌≡◌ {A = ℕ} 9 1 = ap who e in omega arith

-- the same meeting with its carriers exchanged
pub carriers_exchanged : Meeting 0 1 0 1 ≡ first_clash (0 ∷ 1 ∷ 1 ∷ 2 ∷ []) (two 1 1) 1 → ⊥
unfolding chosen or_clear candidates at_step over_pairs happens meets swaps written range greatest each first_of
carriers_exchanged e = let z : ◌≡◌ {A = ℕ} 0 1 = ap who e in omega arith

-- a swap between one carrier and the next passed over
pub next_carrier_passed_over : Clear ≡ first_clash (0 ∷ 1 ∷ 1 ∷ 0 ∷ []) (two 0 0) 1 → ⊥
unfolding chosen or_clear candidates at_step over_pairs happens meets swaps written range greatest each first_of
next_carrier_passed_over e = let z : ◌≡◌ {A = ℕ} 9 5 = ap who e in omega arith

-- carrier 1 comes to the cell that carrier 0 leaves, and no one to that of carrier 1: half a swap
pub half_a_swap : Swap 0 1 0 ≡ first_clash (0 ∷ 2 ∷ 1 ∷ 0 ∷ []) (two 0 0) 1 → ⊥
unfolding chosen or_clear candidates at_step over_pairs happens meets swaps written range greatest each first_of
half_a_swap e = let z : ◌≡◌ {A = ℕ} 5 9 = ap who e in omega arith

-- a carrier that meets itself
pub meets_itself : Meeting 0 0 0 0 ≡ first_clash (0 ∷ 2 ∷ 1 ∷ 0 ∷ []) (two 0 0) 1 → ⊥
unfolding chosen or_clear candidates at_step over_pairs happens meets swaps written range greatest each first_of
meets_itself e = let z : ◌≡◌ {A = ℕ} 0 9 = ap who e in omega arith

-- ---- with slips of their own

-- carrier 1 comes to cell 0 a step after carrier 0, which does not slip, was there. The slips exchanged, or the distance taken up to
-- the greatest slip, whoever is the earlier: a meeting
pub slips_exchanged : Meeting 0 1 0 1 ≡ first_clash (0 ∷ 2 ∷ 1 ∷ 0 ∷ []) (two 0 1) 1 → ⊥
unfolding chosen or_clear candidates at_step over_pairs happens meets swaps written range greatest each first_of
slips_exchanged e = let z : ◌≡◌ {A = ℕ} 0 9 = ap who e in omega arith

-- and carrier 0 to cell 1 a step after carrier 1, which may slip one step. The slips exchanged, or the distance taken up to carrier
-- 0's slip for all pairs: none
pub first_slip_for_all : Clear ≡ first_clash (0 ∷ 1 ∷ 1 ∷ 2 ∷ []) (two 0 1) 1 → ⊥
unfolding chosen or_clear candidates at_step over_pairs happens meets swaps written range greatest each first_of
first_slip_for_all e = let z : ◌≡◌ {A = ℕ} 9 1 = ap who e in omega arith

-- Carrier 2 is on cell 7 a step before carrier 0, and carrier 1 on cell 5 a step before carrier 3. Of two meetings at one step and
-- distance the one with the smaller of all numbers: carrier 0's
pub smaller_of_the_two : Meeting 2 0 0 1 ≡ first_clash (0 ∷ 7 ∷ 5 ∷ 1 ∷ 7 ∷ 2 ∷ 3 ∷ 5 ∷ []) (record { starts = []; goals = []; slips = 1 ∷ 1 ∷ 1 ∷ 1 ∷ []; count = 4 }) 1 → ⊥
unfolding chosen or_clear candidates at_step over_pairs happens meets swaps written range greatest each first_of
smaller_of_the_two e = let z : ◌≡◌ {A = ℕ} 2 1 = ap who e in omega arith
