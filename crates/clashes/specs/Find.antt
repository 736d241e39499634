-- Rule 5's clash in the bytes of a plan: what the code that looks for it may assume, and what it finds. `plan_clash` of the
-- meeting check is `first_clash` of the job's numbers.
use Rattle.std.specs.Prelude.{ℕ, ◌+◌, ◌*◌, ◌≤◌, ◌<◌, List, ◌≡◌, true, false, T, eqb, length, get_or}
use Rattle.job.specs.Job.{most_carriers, most_slip, most_horizon}
use Rattle.job.specs.declared.Team.{Team}
use Rattle.clashes.specs.Clash.{Travel}
use Rattle.clashes.specs.Chosen.{swaps, chosen}
use Rattle.clashes.specs.declared.Clash.{Clash}
use Rattle.clashes.specs.declared.Clash.TheVariants.{Clear, Meeting, Swap}

-- 'carrier by carrier, its cells for steps 0 to H'
abbrev pub cell_in_plan : List ℕ → ℕ → ℕ → ℕ → ℕ
cell_in_plan plan h i t = get_or plan (i * (h + 1) + t) 0

-- how the carriers of a plan travel: `plan_travel` of the numbers that the code has
abbrev pub in_plan : List ℕ → List ℕ → ℕ → Travel
in_plan plan slips h = record { at = cell_in_plan plan h; slip = λ i. get_or slips i 0; horizon = h }

-- the clash that rule 5 chooses in a plan of a team
abbrev pub first_clash : List ℕ → Team → ℕ → Clash
first_clash plan team h = chosen (in_plan plan team.slips h) team.count

-- the least number that the other of a meeting of i can have: 'at equal steps the smaller number counts as earlier'
unfoldable pub first_other : ℕ → ℕ → ℕ
first_other i d = elim (eqb d 0) [ true ↦ i + 1 | false ↦ 0 ]

-- the numbers of an accepted job, and a plan that is long enough
pub record Whole (plan slips : List ℕ) (count h : ℕ) : Type 0 where
  pub few : count ≤ most_carriers
  pub slow : (i : ℕ) → i < count → get_or slips i 0 ≤ most_slip
  pub short : h ≤ most_horizon
  pub whole : count * (h + 1) ≤ length plan

-- 'among swaps least i, then least j, with i < j': the first of the swaps at t, or none of them happens
unfoldable pub FirstSwap : Travel → ℕ → ℕ → Clash → Type 0
FirstSwap v m t Clear = (i j : ℕ) → i < m → j < m → T (swaps v i j t) → ⊥
FirstSwap v m t (Meeting i j u d) = ⊥
FirstSwap v m t (Swap i j u) =
    (u ≡ t) × (i < m) × (j < m) × T (swaps v i j t) × ((i' j' : ℕ) → i' < m → j' < m → T (swaps v i' j' t) → (i ≤ i') × (i ≡ i' → j ≤ j'))
