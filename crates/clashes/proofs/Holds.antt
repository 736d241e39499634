-- Demand 3, over abstract places: no pattern of holds brings two carriers together exactly where no meeting and no swap is.
-- At a real moment each carrier is as many steps behind the moment as it has been held, so two that share a cell there are
-- at steps that differ by no more than a slip; and a meeting is brought about by holding its first carrier at the start.
-- Assumes nothing.
use Prim.Native.Nat.{ℕ, zero, suc, ◌+◌, ◌-◌, ◌≤◌, ◌<◌, min}
use mathlib.Core.Path.{◌≡◌, refl, sym, ap, ◌∙◌}
use mathlib.Core.Bool.{Bool, true, false}
use native.Mathlib.Omega.{arith}
use native.Mathlib.Decide.{dec_le}
use native.Mathlib.Numerals.{add-one}
use lib.Dec.{ltb, eqb}
use borrow.Author.Tests.{ltb-true, ltb-false, eqb-true, eq-eqb, ne_eqb}
use Rattle.clashes.specs.Clash.{Travel, Apart}
use Rattle.clashes.specs.Holds.{Pattern, held_by, done_by, Sparing, place_at, Clean, Survives}

-- ---- a carrier's steps done and its holds make up the moment

module _ (held : ℕ → Bool) where
  pub done_held : (n : ℕ) → done_by held n + held_by held n ≡ n
  unfolding done_by held_by
  done_held zero = refl
  done_held (suc n) =
      let before : done_by held n + held_by held n ≡ n = done_held n in
      (elim (held n) as (λ c. held n ≡ c → done_by held (suc n) + held_by held (suc n) ≡ suc n)
      [ true ↦ λ e. rw (e, done_by, held_by) (omega arith) | false ↦ λ e. rw (e, done_by, held_by) (omega arith) ]) refl

  pub done_rises : (n : ℕ) → (done_by held n ≤ done_by held (n + 1)) × (held_by held n ≤ held_by held (n + 1))
  unfolding done_by held_by
  done_rises n =
      rw add-one
      ((elim (held n) as (λ c. held n ≡ c → (done_by held n ≤ done_by held (suc n)) × (held_by held n ≤ held_by held (suc n)))
      [ true ↦ λ e. rw (e, done_by, held_by) (omega arith) | false ↦ λ e. rw (e, done_by, held_by) (omega arith) ]) refl)

-- ---- apart carriers survive

-- what is true of a carrier at moment n and at n + 1: steps done a and a', holds x and x'
record Goes (s n a x a' x' : ℕ) : Type 0 where
  now : a + x ≡ n
  next : a' + x' ≡ n + 1
  rises : a ≤ a'
  stays : x ≤ x'
  sparing : x' ≤ s

goes : (held : ℕ → Bool) (s n : ℕ) → held_by held (n + 1) ≤ s → Goes s n (done_by held n) (held_by held n) (done_by held (n + 1)) (held_by held (n + 1))
goes held s n few =
    record { now = done_held held n; next = done_held held (n + 1); rises = (done_rises held n).0; stays = (done_rises held n).1; sparing = few }

module _ {s n a x a' x' r b y b' y' : ℕ} (h : ℕ) (one : Goes s n a x a' x') (two : Goes r n b y b' y') where
  -- of two carriers at one moment neither is ahead of the other by more than the other's slip
  not_ahead : min b h ≤ min a h + s
  not_ahead = let f : b ≤ a + s = omega arith in omega arith

  -- all the more if the other has gone on to the next moment
  not_ahead_next : min a h ≤ min b' h + r
  not_ahead_next = let f : a ≤ b' + r = omega arith in omega arith

  -- each is ahead of the other at the next moment by more than the other's slip: then nobody slips, both are at step n
  unslipped : ¬ (min b' h ≤ min a h + s) → ¬ (min a' h ≤ min b h + r) → (s ≡ 0) × (r ≡ 0) × (n + 1 ≤ h) × (min a h ≡ n) × (min b h ≡ n) × (min a' h ≡ n + 1) × (min b' h ≡ n + 1)
  unslipped far wide =
      let f : a + s < b' = omega arith in
      let g : b + r < a' = omega arith in
      let u : a < h = omega arith in
      let v : b < h = omega arith in
      (omega arith, omega arith, omega arith, omega arith, omega arith, omega arith, omega arith)

moved : (v : Travel) {i j a b a' b' : ℕ} → a ≡ a' → b ≡ b' → v.at i a ≡ v.at j b → v.at i a' ≡ v.at j b'
moved v {i} {j} e f same = sym (ap (v.at i) e) ∙ same ∙ ap (v.at j) f

module _ (v : Travel) (m : ℕ) (apart : Apart v m) where
  -- meetings without an order: i at step a and j at step b, neither ahead of the other by more than the other's slip
  pub apart_near : (i j a b : ℕ) → i < m → j < m → (i ≡ j → ⊥) → a ≤ v.horizon → b ≤ v.horizon → b ≤ a + v.slip i → a ≤ b + v.slip j → v.at i a ≡ v.at j b → ⊥
  apart_near i j a b im jm ne ah bh ab ba same =
      elim (dec_le a b) [
        | yes le ↦
            (let e : a + (b - a) ≡ b = omega arith in
            apart.meetings i j a (b - a) im jm (record { two = ne; near = omega arith; inside = omega arith; same = rw e same }))
        | no gt ↦
            (let e : b + (a - b) ≡ a = omega arith in
            apart.meetings j i b (a - b) jm im (record { two = λ q. ne (sym q); near = omega arith; inside = omega arith; same = rw e (sym same) }))
      ]

  -- Two on one cell at one moment are a meeting. Two that exchange cells are one too, unless each goes ahead of the other by
  -- more than the other's slip; then nobody slips and it is a swap.
  pub apart_survives : Survives v m
  unfolding Survives Sparing place_at
  apart_survives p sparing i j im jm ne n =
      let one : Goes (v.slip i) n (done_by (p i) n) (held_by (p i) n) (done_by (p i) (n + 1)) (held_by (p i) (n + 1)) = goes (p i) (v.slip i) n (sparing i im (n + 1)) in
      let two : Goes (v.slip j) n (done_by (p j) n) (held_by (p j) n) (done_by (p j) (n + 1)) (held_by (p j) (n + 1)) = goes (p j) (v.slip j) n (sparing j jm (n + 1)) in
      record {
        not_together = λ same. apart_near i j (min (done_by (p i) n) v.horizon) (min (done_by (p j) n) v.horizon) im jm ne (omega arith) (omega arith) (not_ahead v.horizon one two) (not_ahead v.horizon two one) same;
        not_through = λ there back.
            elim (dec_le (min (done_by (p j) (n + 1)) v.horizon) (min (done_by (p i) n) v.horizon + v.slip i)) [
              | yes near ↦ apart_near i j (min (done_by (p i) n) v.horizon) (min (done_by (p j) (n + 1)) v.horizon) im jm ne (omega arith) (omega arith) near (not_ahead_next v.horizon one two) there
              | no far ↦
                  elim (dec_le (min (done_by (p i) (n + 1)) v.horizon) (min (done_by (p j) n) v.horizon + v.slip j)) [
                    | yes near ↦ apart_near j i (min (done_by (p j) n) v.horizon) (min (done_by (p i) (n + 1)) v.horizon) jm im (λ q. ne (sym q)) (omega arith) (omega arith) near (not_ahead_next v.horizon two one) back
                    | no wide ↦
                        (let u = unslipped v.horizon one two far wide in
                        apart.swaps i j n im jm (record { two = ne; none_slips = (u.0, u.1); inside = u.2; there = moved v u.3 u.6 there; back = moved v u.4 u.5 back }))
                  ]
            ];
      }

-- ---- carriers that survive are apart

-- carrier k is held in its first c k real steps, and never again: from then on it is c k steps behind
delayed : (ℕ → ℕ) → Pattern
delayed c k n = ltb n (c k)

delayed_held : (c : ℕ → ℕ) (k n : ℕ) → held_by (delayed c k) n ≡ min n (c k)
unfolding held_by delayed
delayed_held c k zero = omega arith
delayed_held c k (suc n) =
    let before : held_by (delayed c k) n ≡ min n (c k) = delayed_held c k n in
    (elim (ltb n (c k)) as (λ b. ltb n (c k) ≡ b → held_by (delayed c k) (suc n) ≡ min (suc n) (c k)) [
      | true ↦ λ e. rw (e, held_by) (let l : n < c k = ltb-true n (c k) e in omega arith)
      | false ↦ λ e. rw (e, held_by) (let l : c k ≤ n = ltb-false n (c k) e in omega arith)
    ]) refl

delayed_done : (c : ℕ → ℕ) (k n : ℕ) → done_by (delayed c k) n ≡ n - c k
delayed_done c k n =
    let whole : done_by (delayed c k) n + held_by (delayed c k) n ≡ n = done_held (delayed c k) n in
    let held : held_by (delayed c k) n ≡ min n (c k) = delayed_held c k n in
    omega arith

-- d for carrier i and 0 for every other
just : ℕ → ℕ → ℕ → ℕ
just i d k = elim (eqb k i) [ true ↦ d | false ↦ 0 ]

just_own : (i d : ℕ) → just i d i ≡ d
unfolding just
just_own i d = rw (eq-eqb i i refl, just)

just_other : (i d k : ℕ) → (k ≡ i → ⊥) → just i d k ≡ 0
unfolding just
just_other i d k ne = rw (ne_eqb k i ne, just)

just_within : (slip : ℕ → ℕ) (i d : ℕ) → d ≤ slip i → (k : ℕ) → just i d k ≤ slip k
unfolding just
just_within slip i d near k =
    (elim (eqb k i) as (λ b. eqb k i ≡ b → just i d k ≤ slip k)
    [ true ↦ λ e. rw (e, just) (rw (eqb-true k i e) near) | false ↦ λ e. rw (e, just) (omega arith) ]) refl

module _ (v : Travel) (m : ℕ) (survives : Survives v m) where
  delayed_clean : (c : ℕ → ℕ) → ((k : ℕ) → c k ≤ v.slip k) → (i j : ℕ) → i < m → j < m → (i ≡ j → ⊥) → (n : ℕ) → Clean v (delayed c) i j n
  unfolding Survives Sparing
  delayed_clean c few = survives (delayed c) (λ k km n. rw delayed_held (let f : c k ≤ v.slip k = few k in omega arith))

  pub survives_apart : Apart v m
  unfolding place_at
  survives_apart =
      record {
        meetings = λ i j t d im jm meets.
            let first : min (done_by (delayed (just i d) i) (t + d)) v.horizon ≡ t = rw (delayed_done, just_own) (let f : t + d ≤ v.horizon = meets.inside in omega arith) in
            let other : min (done_by (delayed (just i d) j) (t + d)) v.horizon ≡ t + d =
            rw (delayed_done, just_other i d j (λ q. meets.two (sym q))) (let f : t + d ≤ v.horizon = meets.inside in omega arith) in
            (delayed_clean (just i d) (just_within v.slip i d meets.near) i j im jm meets.two (t + d)).not_together (moved v (sym first) (sym other) meets.same);
        swaps = λ i j t im jm swaps.
            let moves : (k : ℕ) → min (done_by (delayed (λ _. 0) k) t) v.horizon ≡ t = λ k. rw delayed_done (let f : t + 1 ≤ v.horizon = swaps.inside in omega arith) in
            let goes_on : (k : ℕ) → min (done_by (delayed (λ _. 0) k) (t + 1)) v.horizon ≡ t + 1 = λ k. rw delayed_done (let f : t + 1 ≤ v.horizon = swaps.inside in omega arith) in
            (delayed_clean (λ _. 0) (λ k. omega arith) i j im jm swaps.two t).not_through (moved v (sym (moves i)) (sym (goes_on j)) swaps.there) (moved v (sym (moves j)) (sym (goes_on i)) swaps.back);
      }
