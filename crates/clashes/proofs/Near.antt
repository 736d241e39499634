-- The word 'neighbouring' in the collision changes nothing where every step of a route leads to a near cell or stays: in a real
-- step a carrier does one step of its route or none, so what it comes to is near what it leaves, or the same. Of two that exchange
-- their cells the one leaves what the other comes to; so their cells are near, or they are together on one. Assumes nothing.
use Prim.Native.Nat.{ℕ, ◌+◌, ◌≤◌, ◌<◌, min}
use mathlib.Core.Path.{◌≡◌, sym, ap, subst, ◌∙◌}
use mathlib.Core.Logic.{◌⊎◌, inl, ⊎_elim}
use native.Mathlib.Omega.{arith}
use native.Mathlib.Decide.{ℕ_discrete}
use Rattle.clashes.specs.Clash.{Travel}
use Rattle.clashes.specs.Holds.{Pattern, held_by, done_by, place_at, Survives, SurvivesNear}
use Rattle.clashes.proofs.Holds.{done_held, done_rises}

module _ (near : ℕ → ℕ → Type 0) (v : Travel) (m : ℕ) where
  pub survives_near : Survives v m → SurvivesNear near v m
  unfolding Survives SurvivesNear
  survives_near survives p sparing i j im jm ne n =
      let clean = survives p sparing i j im jm ne n in
      record { not_together = clean.not_together; not_through = λ _ there back. clean.not_through there back }

  module _ (steps : (i t : ℕ) → i < m → t < v.horizon → (v.at i (t + 1) ≡ v.at i t) ⊎ near (v.at i (t + 1)) (v.at i t)) where
    -- from a real moment to the next
    goes_near : (p : Pattern) (i n : ℕ) → i < m → (place_at v p i (n + 1) ≡ place_at v p i n) ⊎ near (place_at v p i (n + 1)) (place_at v p i n)
    unfolding place_at
    goes_near p i n im =
        let rises : (done_by (p i) n ≤ done_by (p i) (n + 1)) × (held_by (p i) n ≤ held_by (p i) (n + 1)) = done_rises (p i) n in
        let now : done_by (p i) n + held_by (p i) n ≡ n = done_held (p i) n in
        let next : done_by (p i) (n + 1) + held_by (p i) (n + 1) ≡ n + 1 = done_held (p i) (n + 1) in
        elim (ℕ_discrete (min (done_by (p i) (n + 1)) v.horizon) (min (done_by (p i) n) v.horizon)) [
          | yes e ↦ inl (ap (v.at i) e)
          | no ne ↦
              (let at : ℕ = min (done_by (p i) n) v.horizon in
              let one : min (done_by (p i) (n + 1)) v.horizon ≡ at + 1 = omega arith in
              subst (λ s. (v.at i s ≡ v.at i at) ⊎ near (v.at i s) (v.at i at)) (sym one) (steps i at im (omega arith)))
        ]

    pub near_survives : SurvivesNear near v m → Survives v m
    unfolding Survives SurvivesNear
    near_survives survives p sparing i j im jm ne n =
        let clean = survives p sparing i j im jm ne n in
        record {
          not_together = clean.not_together;
          not_through = λ there back.
              ⊎_elim
              (λ (same : place_at v p j (n + 1) ≡ place_at v p j n). clean.not_together (there ∙ same))
              (λ (close : near (place_at v p j (n + 1)) (place_at v p j n)). clean.not_through (subst (λ c. near c (place_at v p j n)) (sym there) close) there back)
              (goes_near p j n jm);
        }
