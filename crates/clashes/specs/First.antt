-- Document 01, 'The search tree', rule 5, in words: what is chosen is a meeting or a swap, or there is none, and none comes before
-- it. That `chosen` chooses so is the law `chosen_right`.
use Rattle.std.specs.Prelude.{ℕ, ◌≤◌, ◌<◌, ◌≡◌}
use Rattle.clashes.specs.Clash.{Travel, Meets, Swaps, Apart}
use Rattle.clashes.specs.declared.Clash.{Clash}
use Rattle.clashes.specs.declared.Clash.TheVariants.{Clear, Meeting, Swap}

-- 'least e, then least distance of the two steps, then the earlier carrier's number, then the other's'. 'A swap at t comes after all
-- meetings at t and before those at t + 1; among swaps least i, then least j'. No clash at all comes after every clash.
unfoldable pub NotLater : Clash → Clash → Type 0
NotLater (Meeting i j t d) (Meeting i' j' t' d') =
    (t ≤ t') × (t ≡ t' → d ≤ d') × (t ≡ t' → d ≡ d' → i ≤ i') × (t ≡ t' → d ≡ d' → i ≡ i' → j ≤ j')
NotLater (Meeting i j t d) (Swap i' j' t') = t ≤ t'
NotLater (Swap i j t) (Meeting i' j' t' d') = t < t'
NotLater (Swap i j t) (Swap i' j' t') = (t ≤ t') × (t ≡ t' → i ≤ i') × (t ≡ t' → i ≡ i' → j ≤ j')
NotLater (Meeting i j t d) Clear = Unit {0}
NotLater (Swap i j t) Clear = Unit {0}
NotLater Clear (Meeting i' j' t' d') = ⊥
NotLater Clear (Swap i' j' t') = ⊥
NotLater Clear Clear = Unit {0}

module _ (v : Travel) (m : ℕ) where
  -- a meeting among m carriers, the earlier first; 'at equal steps the smaller number counts as earlier'
  pub record MeetingOf (i j t d : ℕ) : Type 0 where
    pub one : i < m
    pub other : j < m
    pub smaller : d ≡ 0 → i < j
    pub is : Meets v i j t d

  -- a swap among m carriers, 'with i < j'
  pub record SwapOf (i j t : ℕ) : Type 0 where
    pub one : i < m
    pub other : j < m
    pub smaller : i < j
    pub is : Swaps v i j t

  -- a meeting or a swap, or none where there is none
  unfoldable pub ChosenFact : Clash → Type 0
  ChosenFact Clear = Apart v m
  ChosenFact (Meeting i j t d) = MeetingOf i j t d
  ChosenFact (Swap i j t) = SwapOf i j t

  -- rule 5's choice: no meeting and no swap comes before it
  pub record RightChoice (c : Clash) : Type 0 where
    pub chosen : ChosenFact c
    pub meetings : (i j t d : ℕ) → MeetingOf i j t d → NotLater c (Meeting i j t d)
    pub swaps : (i j t : ℕ) → SwapOf i j t → NotLater c (Swap i j t)
