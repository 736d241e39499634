-- What is true of every candidate of rule 5, by the numbers of the candidate: steps up to the horizon, distances up to the
-- greatest slip, carriers below m. The list of candidates is ranges within ranges, and every meeting and swap that has its
-- smaller number first where the order is free is a candidate that passes.
-- Assumes nothing.
use Prim.Native.Nat.{ℕ, ◌+◌, ◌≤◌, ◌<◌}
use mathlib.Core.Path.{◌≡◌}
use mathlib.Core.List.{List, map}
use native.Mathlib.Omega.{arith}
use lib.Dec.{T}
use Rattle.lists.specs.Lists.{range, greatest, each, first_of, Every}
use Rattle.lists.proofs.Every.{every_append, append_every, every_map, map_every, every_each, each_every, every_below, below_every}
use Rattle.lists.proofs.Greatest.{greatest_above}
use Rattle.lists.proofs.Passing.{FirstFact, first_fact}
use Rattle.clashes.specs.Clash.{Travel, Meets, Swaps}
use Rattle.clashes.specs.Chosen.{happens, over_pairs, at_step, candidates}
use Rattle.clashes.specs.declared.Clash.{Clash}
use Rattle.clashes.specs.declared.Clash.TheVariants.{Clear, Meeting, Swap}
use Rattle.clashes.proofs.Tests.{tells_meets, tells_swaps}

-- the candidates: among m carriers, no further apart than the greatest slip, up to the horizon
unfoldable pub Listed : Travel → ℕ → Clash → Type 0
Listed v m Clear = ⊥
Listed v m (Meeting i j t d) = (i < m) × (j < m) × (t ≤ v.horizon) × (d ≤ greatest m v.slip)
Listed v m (Swap i j t) = (i < m) × (j < m) × (t ≤ v.horizon)

-- the two stretches of the list that have no name in rule 5's definition: one i with each j, and the meetings at a step
abbrev pub row : ℕ → (ℕ → ℕ → Clash) → ℕ → List Clash
row m clash i = map (λ j. clash i j) (range 0 m)

abbrev pub meetings_at : Travel → ℕ → ℕ → List Clash
meetings_at v m t = each (λ d. over_pairs m (λ i j. Meeting i j t d)) (range 0 (greatest m v.slip + 1))

module _ (P : Clash → Type 0) (m : ℕ) where
  pub every_pair : (clash : ℕ → ℕ → Clash) → ((i j : ℕ) → i < m → j < m → P (clash i j)) → Every P (over_pairs m clash)
  unfolding over_pairs
  every_pair clash f =
      every_each P (row m clash) (range 0 m)
      (every_below (λ i. Every P (row m clash i)) m
      (λ i im. every_map P (λ j. clash i j) (range 0 m) (every_below (λ j. P (clash i j)) m (λ j jm. f i j im jm))))

  pair_every : (clash : ℕ → ℕ → Clash) → Every P (over_pairs m clash) → (i j : ℕ) → i < m → j < m → P (clash i j)
  unfolding over_pairs
  pair_every clash f i j im jm =
      below_every (λ j. P (clash i j)) m
      (map_every P (λ j. clash i j) (range 0 m)
      (below_every (λ i. Every P (row m clash i)) m (each_every P (row m clash) (range 0 m) f) i im)) j jm

  module _ (v : Travel) where
    pub every_meeting : (t : ℕ) → ((i j d : ℕ) → i < m → j < m → d ≤ greatest m v.slip → P (Meeting i j t d)) → Every P (meetings_at v m t)
    every_meeting t f =
        every_each P (λ d. over_pairs m (λ i j. Meeting i j t d)) (range 0 (greatest m v.slip + 1))
        (every_below (λ d. Every P (over_pairs m (λ i j. Meeting i j t d))) (greatest m v.slip + 1)
        (λ d below. every_pair (λ i j. Meeting i j t d) (λ i j im jm. f i j d im jm (omega arith))))

    pub every_at_step : (t : ℕ) → ((i j d : ℕ) → i < m → j < m → d ≤ greatest m v.slip → P (Meeting i j t d)) → ((i j : ℕ) → i < m → j < m → P (Swap i j t)) → Every P (at_step v m t)
    unfolding at_step
    every_at_step t f g = every_append P (meetings_at v m t) (over_pairs m (λ i j. Swap i j t)) (every_meeting t f) (every_pair (λ i j. Swap i j t) g)

    pub every_candidate : ((c : Clash) → Listed v m c → P c) → Every P (candidates v m)
    unfolding candidates Listed
    every_candidate f =
        every_each P (at_step v m) (range 0 (v.horizon + 1))
        (every_below (λ t. Every P (at_step v m t)) (v.horizon + 1)
        (λ t below.
        every_at_step t (λ i j d im jm near. f (Meeting i j t d) (im, jm, omega arith, near)) (λ i j im jm. f (Swap i j t) (im, jm, omega arith))))

    at_step_every : Every P (candidates v m) → (t : ℕ) → t ≤ v.horizon → Every P (meetings_at v m t) × Every P (over_pairs m (λ i j. Swap i j t))
    unfolding candidates at_step
    at_step_every f t inside =
        append_every P (meetings_at v m t) (over_pairs m (λ i j. Swap i j t))
        (below_every (λ t. Every P (at_step v m t)) (v.horizon + 1) (each_every P (at_step v m) (range 0 (v.horizon + 1)) f) t (omega arith))

    pub candidate_every : Every P (candidates v m) → (c : Clash) → Listed v m c → P c
    unfolding Listed
    candidate_every f Clear l = absurd l
    candidate_every f (Meeting i j t d) l =
        pair_every (λ i j. Meeting i j t d)
        (below_every (λ d. Every P (over_pairs m (λ i j. Meeting i j t d))) (greatest m v.slip + 1)
        (each_every P (λ d. over_pairs m (λ i j. Meeting i j t d)) (range 0 (greatest m v.slip + 1)) (at_step_every f t l.2).0) d (omega arith)) i j l.0 l.1
    candidate_every f (Swap i j t) l = pair_every (λ i j. Swap i j t) (at_step_every f t l.2).1 i j l.0 l.1

-- ---- candidates that pass

module _ (v : Travel) (m : ℕ) where
  pub first_passed : FirstFact (happens v) (Listed v m) (candidates v m) (first_of (happens v) (candidates v m))
  first_passed = first_fact (happens v) (Listed v m) (candidates v m) (every_candidate (Listed v m) m v (λ c listed. listed))

  pub meeting_passes : (i j t d : ℕ) → i < m → j < m → (d ≡ 0 → i < j) → Meets v i j t d → Listed v m (Meeting i j t d) × T (happens v (Meeting i j t d))
  unfolding Listed happens
  meeting_passes i j t d im jm less meets =
      let most : v.slip i ≤ greatest m v.slip = greatest_above m v.slip i im in
      ((im, jm, omega arith, omega arith), tells_meets v i j t d meets less)

  pub swap_passes : (i j t : ℕ) → i < m → j < m → i < j → Swaps v i j t → Listed v m (Swap i j t) × T (happens v (Swap i j t))
  unfolding Listed happens
  swap_passes i j t im jm less swaps = ((im, jm, omega arith), tells_swaps v i j t swaps less)
