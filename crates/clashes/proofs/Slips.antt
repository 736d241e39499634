-- Smaller slips are safe too: a pattern that spares the smaller slips spares the greater.
-- Assumes nothing.
use Prim.Native.Nat.{ℕ, ◌≤◌, ◌<◌}
use native.Mathlib.Nat.{le_trans}
use Rattle.clashes.specs.Clash.{Travel}
use Rattle.clashes.specs.Holds.{Sparing, place_at, Survives}

-- the same routes with other slips
abbrev pub slipping : Travel → (ℕ → ℕ) → Travel
slipping v slip = record { at = v.at; slip = slip; horizon = v.horizon }

module _ (v : Travel) (slip' : ℕ → ℕ) (m : ℕ) (less : (i : ℕ) → i < m → slip' i ≤ v.slip i) where
  pub survives_monotone : Survives v m → Survives (slipping v slip') m
  unfolding Survives Sparing place_at
  survives_monotone survives p sparing i j im jm ne n =
      let clean = survives p (λ i im n. le_trans (sparing i im n) (less i im)) i j im jm ne n in
      record { not_together = clean.not_together; not_through = clean.not_through }
