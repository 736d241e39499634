-- What rule 5's choice tells: a clash that was chosen happens, and where none was, the carriers are apart. The chosen clash
-- is the first candidate that passes the tests, and every meeting and swap is, in one of its two readings, a candidate.
-- Assumes nothing.
use Prim.Native.Nat.{ℕ, ◌+◌, ◌<◌}
use mathlib.Core.Path.{◌≡◌, refl, sym, subst}
use mathlib.Core.Option.{Option, none, some}
use native.Mathlib.Omega.{arith}
use native.Mathlib.Decide.{dec_lt, ℕ_discrete}
use lib.Dec.{T}
use Rattle.lists.specs.Lists.{first_of}
use Rattle.lists.proofs.Passing.{FirstFact}
use Rattle.clashes.specs.Clash.{Travel, Meets, Swaps, Apart}
use Rattle.clashes.specs.First.{ChosenFact}
use Rattle.clashes.specs.Chosen.{happens, candidates, or_clear, chosen}
use Rattle.clashes.specs.declared.Clash.{Clash}
use Rattle.clashes.specs.declared.Clash.TheVariants.{Clear, Meeting, Swap}
use Rattle.clashes.proofs.Tests.{meets_tells, swaps_tells}
use Rattle.clashes.proofs.Candidates.{Listed, candidate_every, first_passed, meeting_passes, swap_passes}

-- ---- a meeting at one moment and a swap are read from either side

module _ {v : Travel} {i j t : ℕ} where
  meets_turned : (d : ℕ) → d ≡ 0 → Meets v i j t d → Meets v j i t d
  meets_turned d z meets =
      let e : t + d ≡ t = omega arith in
      record { two = λ q. meets.two (sym q); near = omega arith; inside = meets.inside; same = rw e (sym (rw e at meets.same)) }

  swaps_turned : Swaps v i j t → Swaps v j i t
  swaps_turned swaps = record { two = λ q. swaps.two (sym q); none_slips = (swaps.none_slips.1, swaps.none_slips.0); inside = swaps.inside; there = swaps.back; back = swaps.there }

-- ---- what is chosen

module _ (v : Travel) (m : ℕ) where
  -- a candidate that passes
  passed : (c : Clash) → T (happens v c) → Listed v m c → ChosenFact v m c
  unfolding ChosenFact happens Listed
  passed Clear test l = absurd l
  passed (Meeting i j t d) test l = let s = meets_tells v i j t d test in record { one = l.0; other = l.1; smaller = s.1; is = s.0 }
  passed (Swap i j t) test l = let s = swaps_tells v i j t test in record { one = l.0; other = l.1; smaller = s.1; is = s.0 }

  -- no candidate passes
  module _ (failed : (c : Clash) → Listed v m c → T (happens v c) → ⊥) where
    no_meeting_written : (i j t d : ℕ) → i < m → j < m → (d ≡ 0 → i < j) → Meets v i j t d → ⊥
    no_meeting_written i j t d im jm less meets =
        let passes = meeting_passes v m i j t d im jm less meets in
        failed (Meeting i j t d) passes.0 passes.1

    no_meeting : (i j t d : ℕ) → i < m → j < m → Meets v i j t d → ⊥
    no_meeting i j t d im jm meets =
        elim (ℕ_discrete d 0) [
          | yes z ↦
              elim (dec_lt i j) [
                | yes less ↦ no_meeting_written i j t d im jm (λ _. less) meets
                | no more ↦ no_meeting_written j i t d jm im (λ _. omega arith) (meets_turned d z meets)
              ]
          | no later ↦ no_meeting_written i j t d im jm (λ z. absurd (later z)) meets
        ]

    no_swap_written : (i j t : ℕ) → i < m → j < m → i < j → Swaps v i j t → ⊥
    no_swap_written i j t im jm less swaps =
        let passes = swap_passes v m i j t im jm less swaps in
        failed (Swap i j t) passes.0 passes.1

    no_swap : (i j t : ℕ) → i < m → j < m → Swaps v i j t → ⊥
    no_swap i j t im jm swaps =
        elim (dec_lt i j)
        [ yes less ↦ no_swap_written i j t im jm less swaps | no more ↦ no_swap_written j i t jm im (omega arith) (swaps_turned swaps) ]

  found : (o : Option Clash) → FirstFact (happens v) (Listed v m) (candidates v m) o → ChosenFact v m (or_clear o)
  unfolding FirstFact or_clear ChosenFact
  found none fails =
      let failed : (c : Clash) → Listed v m c → T (happens v c) → ⊥ = candidate_every (λ c. T (happens v c) → ⊥) m v fails in
      record { meetings = no_meeting failed; swaps = no_swap failed }
  found (some c) f = passed c f.0 f.1

  pub chosen_fact : ChosenFact v m (chosen v m)
  unfolding chosen
  chosen_fact = found (first_of (happens v) (candidates v m)) (first_passed v m)

  pub clear_apart : chosen v m ≡ Clear → Apart v m
  unfolding ChosenFact
  clear_apart e = subst (ChosenFact v m) e chosen_fact

  pub apart_clear : Apart v m → chosen v m ≡ Clear
  unfolding ChosenFact
  apart_clear apart = go (chosen v m) chosen_fact
    where
      go : (c : Clash) → ChosenFact v m c → c ≡ Clear
      go Clear f = refl
      go (Meeting i j t d) f = absurd (apart.meetings i j t d f.one f.other f.is)
      go (Swap i j t) f = absurd (apart.swaps i j t f.one f.other f.is)
