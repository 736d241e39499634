-- Rule 5 in words: the chosen clash is not later than any other that happens. The candidates are listed in rule 5's order,
-- and the first of them that passes is chosen.
-- Assumes nothing.
use Prim.Native.Nat.{ℕ, ◌+◌, ◌≤◌, ◌<◌}
use mathlib.Core.Path.{◌≡◌, refl, sym}
use mathlib.Core.Option.{Option, none, some}
use native.Mathlib.Omega.{arith}
use lib.Dec.{T}
use Rattle.lists.specs.Lists.{range, greatest, first_of, Every}
use Rattle.lists.proofs.Every.{every_below}
use Rattle.lists.proofs.Orders.{LeastFact, first_least, Ordered, ordered_append, ordered_each, ordered_range, ordered_rows}
use Rattle.lists.proofs.Passing.{FirstFact}
use Rattle.clashes.specs.Clash.{Travel}
use Rattle.clashes.specs.First.{NotLater, ChosenFact, RightChoice}
use Rattle.clashes.specs.Chosen.{happens, over_pairs, at_step, candidates, or_clear, chosen}
use Rattle.clashes.specs.declared.Clash.{Clash}
use Rattle.clashes.specs.declared.Clash.TheVariants.{Clear, Meeting, Swap}
use Rattle.clashes.proofs.Candidates.{Listed, meetings_at, every_pair, every_meeting, every_at_step, candidate_every, first_passed, meeting_passes, swap_passes}
use Rattle.clashes.proofs.Chosen.{chosen_fact}

not_later_self : (c : Clash) → NotLater c c
unfolding NotLater
not_later_self Clear = tt
not_later_self (Meeting i j t d) = omega arith
not_later_self (Swap i j t) = omega arith

-- ---- the candidates are in order

module _ (m : ℕ) where
  pairs_in_order : (clash : ℕ → ℕ → Clash) → ((i j j' : ℕ) → j < j' → NotLater (clash i j) (clash i j')) → ((i j i' j' : ℕ) → i < i' → NotLater (clash i j) (clash i' j')) → Ordered NotLater (over_pairs m clash)
  unfolding over_pairs
  pairs_in_order clash inner outer = ordered_rows NotLater clash (λ i. 0) (λ i. m) inner outer m

  module _ (v : Travel) where
    meetings_in_order : (t : ℕ) → Ordered NotLater (meetings_at v m t)
    unfolding NotLater
    meetings_in_order t =
        ordered_each NotLater (λ d. over_pairs m (λ i j. Meeting i j t d)) (range 0 (greatest m v.slip + 1))
        (every_below (λ d. Ordered NotLater (over_pairs m (λ i j. Meeting i j t d))) (greatest m v.slip + 1)
        (λ d _. pairs_in_order (λ i j. Meeting i j t d) (λ i j j' less. omega arith) (λ i j i' j' less. omega arith)))
        (ordered_range (λ d d'. Every (λ x. Every (NotLater x) (over_pairs m (λ i j. Meeting i j t d'))) (over_pairs m (λ i j. Meeting i j t d))) 0 (greatest m v.slip + 1)
        (λ d d' _ less _.
        every_pair (λ x. Every (NotLater x) (over_pairs m (λ i j. Meeting i j t d'))) m (λ i j. Meeting i j t d)
        (λ i j _ _. every_pair (NotLater (Meeting i j t d)) m (λ i j. Meeting i j t d') (λ i' j' _ _. omega arith))))

    step_in_order : (t : ℕ) → Ordered NotLater (at_step v m t)
    unfolding at_step NotLater
    step_in_order t =
        ordered_append NotLater (meetings_at v m t) (over_pairs m (λ i j. Swap i j t))
        (meetings_in_order t)
        (pairs_in_order (λ i j. Swap i j t) (λ i j j' less. omega arith) (λ i j i' j' less. omega arith))
        (every_meeting (λ x. Every (NotLater x) (over_pairs m (λ i j. Swap i j t))) m v t
        (λ i j d _ _ _. every_pair (NotLater (Meeting i j t d)) m (λ i j. Swap i j t) (λ i' j' _ _. omega arith)))

    candidates_in_order : Ordered NotLater (candidates v m)
    unfolding candidates NotLater
    candidates_in_order =
        ordered_each NotLater (at_step v m) (range 0 (v.horizon + 1))
        (every_below (λ t. Ordered NotLater (at_step v m t)) (v.horizon + 1) (λ t _. step_in_order t))
        (ordered_range (λ t t'. Every (λ x. Every (NotLater x) (at_step v m t')) (at_step v m t)) 0 (v.horizon + 1)
        (λ t t' _ less _.
        every_at_step (λ x. Every (NotLater x) (at_step v m t')) m v t
        (λ i j d _ _ _. every_at_step (NotLater (Meeting i j t d)) m v t' (λ i' j' d' _ _ _. omega arith) (λ i' j' _ _. omega arith))
        (λ i j _ _. every_at_step (NotLater (Swap i j t)) m v t' (λ i' j' d' _ _ _. omega arith) (λ i' j' _ _. omega arith))))

-- ---- so the chosen one is the first, and nothing else is

not_later_both : (c c' : Clash) → NotLater c c' → NotLater c' c → c ≡ c'
unfolding NotLater
not_later_both Clear Clear f g = refl
not_later_both Clear (Meeting i j t d) f g = absurd f
not_later_both Clear (Swap i j t) f g = absurd f
not_later_both (Meeting i j t d) Clear f g = absurd g
not_later_both (Meeting i j t d) (Meeting i' j' t' d') f g =
    let e : t ≡ t' = omega arith in
    let near : (d ≤ d') × (d' ≤ d) = (f.1 e, g.1 (sym e)) in
    let e₁ : d ≡ d' = omega arith in
    let low : (i ≤ i') × (i' ≤ i) = (f.2 e e₁, g.2 (sym e) (sym e₁)) in
    let e₂ : i ≡ i' = omega arith in
    let last : (j ≤ j') × (j' ≤ j) = (f.3 e e₁ e₂, g.3 (sym e) (sym e₁) (sym e₂)) in
    let e₃ : j ≡ j' = omega arith in
    cc
not_later_both (Meeting i j t d) (Swap i' j' t') f g = absurd (omega arith)
not_later_both (Swap i j t) Clear f g = absurd g
not_later_both (Swap i j t) (Meeting i' j' t' d') f g = absurd (omega arith)
not_later_both (Swap i j t) (Swap i' j' t') f g =
    let e : t ≡ t' = omega arith in
    let low : (i ≤ i') × (i' ≤ i) = (f.1 e, g.1 (sym e)) in
    let e₁ : i ≡ i' = omega arith in
    let last : (j ≤ j') × (j' ≤ j) = (f.2 e e₁, g.2 (sym e) (sym e₁)) in
    let e₂ : j ≡ j' = omega arith in
    cc

module _ (v : Travel) (m : ℕ) where
  module _ (c : Clash) (listed : Listed v m c) (test : T (happens v c)) where
    first_of_lem : (o : Option Clash) → FirstFact (happens v) (Listed v m) (candidates v m) o → LeastFact (happens v) NotLater (candidates v m) o → NotLater (or_clear o) c
    unfolding FirstFact LeastFact or_clear
    first_of_lem none fails least = absurd (candidate_every (λ c. T (happens v c) → ⊥) m v fails c listed test)
    first_of_lem (some x) first least = candidate_every (λ c. T (happens v c) → NotLater x c) m v least c listed test

    chosen_first : NotLater (chosen v m) c
    unfolding chosen
    chosen_first =
        first_of_lem (first_of (happens v) (candidates v m)) (first_passed v m)
        (first_least (happens v) NotLater not_later_self (candidates v m) (candidates_in_order m v))

    module _ (first : (c' : Clash) → Listed v m c' → T (happens v c') → NotLater c c') where
      only_of : (o : Option Clash) → FirstFact (happens v) (Listed v m) (candidates v m) o → NotLater (or_clear o) c → or_clear o ≡ c
      unfolding FirstFact or_clear
      only_of none fails least = absurd (candidate_every (λ c. T (happens v c) → ⊥) m v fails c listed test)
      only_of (some x) passed least = not_later_both x c least (first x passed.1 passed.0)

      pub first_chosen : chosen v m ≡ c
      unfolding chosen
      first_chosen = only_of (first_of (happens v) (candidates v m)) (first_passed v m) chosen_first

  pub chosen_right : RightChoice v m (chosen v m)
  chosen_right =
      record {
        chosen = chosen_fact v m;
        meetings = λ i j t d f.
            let passes = meeting_passes v m i j t d f.one f.other f.smaller f.is in
            chosen_first (Meeting i j t d) passes.0 passes.1;
        swaps = λ i j t f.
            let passes = swap_passes v m i j t f.one f.other f.smaller f.is in
            chosen_first (Swap i j t) passes.0 passes.1;
      }

-- and rule 5 leaves no choice
module _ (v : Travel) (m : ℕ) where
  no_later : (c c' : Clash) → RightChoice v m c → ChosenFact v m c' → NotLater c c'
  unfolding ChosenFact NotLater
  no_later Clear Clear r f = tt
  no_later (Meeting i j t d) Clear r f = tt
  no_later (Swap i j t) Clear r f = tt
  no_later c (Meeting i j t d) r f = r.meetings i j t d f
  no_later c (Swap i j t) r f = r.swaps i j t f

  pub right_choice_unique : (c c' : Clash) → RightChoice v m c → RightChoice v m c' → c ≡ c'
  right_choice_unique c c' r r' = not_later_both c c' (no_later c c' r r'.chosen) (no_later c' c r' r.chosen)
