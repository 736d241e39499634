-- P3's meeting, in which neither carrier is named as the earlier, is the meeting with its earlier carrier first, read from one side or
-- the other; and where no two meet so and none swap, the carriers are apart. Assumes nothing.
use Prim.Native.Nat.{ℕ, ◌+◌, ◌-◌, ◌≤◌, ◌<◌}
use mathlib.Core.Path.{◌≡◌, sym, ap, ◌∙◌}
use mathlib.Core.Logic.{◌⊎◌, inl, inr, ◌↔◌}
use native.Mathlib.Omega.{arith}
use native.Mathlib.Decide.{dec_le}
use Rattle.clashes.specs.Clash.{Travel, MeetAt, Meets, Swaps, Apart}

-- i at t and j at u, or j at u and i at t: the earlier first
abbrev pub Written : Travel → ℕ → ℕ → ℕ → ℕ → Type 0
Written v i j t u = ((t ≤ u) × Meets v i j t (u - t)) ⊎ ((u ≤ t) × Meets v j i u (t - u))

module _ (v : Travel) (i j t u : ℕ) where
  one_way : MeetAt v i j t u → t ≤ u → Meets v i j t (u - t)
  one_way m le =
      let (a, b) = m.inside in
      let here : u ≡ t + (u - t) = omega arith in
      let wait : u ≤ t + v.slip i = m.i_waits in
      record { two = m.two; near = omega arith; inside = omega arith; same = m.same ∙ ap (v.at j) here }

  other_way : MeetAt v i j t u → u ≤ t → Meets v j i u (t - u)
  other_way m le =
      let (a, b) = m.inside in
      let here : t ≡ u + (t - u) = omega arith in
      let wait : t ≤ u + v.slip j = m.j_waits in
      record { two = λ e. m.two (sym e); near = omega arith; inside = omega arith; same = sym m.same ∙ ap (v.at i) here }

  back : Written v i j t u → MeetAt v i j t u
  back (inl (le, m)) =
      let here : t + (u - t) ≡ u = omega arith in
      let near : u - t ≤ v.slip i = m.near in
      let inside : t + (u - t) ≤ v.horizon = m.inside in
      record { two = m.two; i_waits = omega arith; j_waits = omega arith; inside = (omega arith, omega arith); same = m.same ∙ ap (v.at j) here }
  back (inr (le, m)) =
      let here : u + (t - u) ≡ t = omega arith in
      let near : t - u ≤ v.slip j = m.near in
      let inside : u + (t - u) ≤ v.horizon = m.inside in
      record { two = λ e. m.two (sym e); i_waits = omega arith; j_waits = omega arith; inside = (omega arith, omega arith); same = sym (m.same ∙ ap (v.at i) here) }

  pub meet_written : MeetAt v i j t u ↔ Written v i j t u
  meet_written = (λ m. elim (dec_le t u) [ yes le ↦ inl (le, one_way m le) | no more ↦ inr (omega arith, other_way m (omega arith)) ], back)

-- 'no meeting and no swap', in P3's words
pub apart_meet : (v : Travel) (m : ℕ) → Apart v m ↔ (((i j t u : ℕ) → i < m → j < m → MeetAt v i j t u → ⊥) × ((i j t : ℕ) → i < m → j < m → Swaps v i j t → ⊥))
apart_meet v m = (
  λ apart. (λ i j t u im jm meet. neither apart i j t u im jm ((meet_written v i j t u).0 meet), apart.swaps),
  λ none. record { meetings = λ i j t d im jm meets. none.0 i j t (t + d) im jm ((meet_written v i j t (t + d)).1 (inl (omega arith, later v i j t d meets))); swaps = none.1 },
)
  where
    neither : Apart v m → (i j t u : ℕ) → i < m → j < m → Written v i j t u → ⊥
    neither apart i j t u im jm (inl (le, meets)) = apart.meetings i j t (u - t) im jm meets
    neither apart i j t u im jm (inr (le, meets)) = apart.meetings j i u (t - u) jm im meets

    later : (v : Travel) (i j t d : ℕ) → Meets v i j t d → Meets v i j t (t + d - t)
    later v i j t d meets =
        let e : t + d - t ≡ d = omega arith in
        let near : d ≤ v.slip i = meets.near in
        let inside : t + d ≤ v.horizon = meets.inside in
        let here : t + d ≡ t + (t + d - t) = omega arith in
        record { two = meets.two; near = omega arith; inside = omega arith; same = meets.same ∙ ap (v.at j) here }

-- An exchange in which one of the two slips is already a meeting at that step, so that no choice shows whether it is called a swap too
pub exchange_meets : (v : Travel) (i j t : ℕ) → (i ≡ j → ⊥) → t + 1 ≤ v.horizon → v.at i t ≡ v.at j (t + 1) → 1 ≤ v.slip i → Meets v i j t 1
exchange_meets v i j t two inside there slips = record { two = two; near = slips; inside = inside; same = there }
