-- Document 01, 'Holds: at each real step a carrier either does its next listed move or stay, or is held. A pattern says who
-- is held when; each carrier is held at most k times in all.' (P3: 'each carrier's own slip' for k.) 'A collision is two carriers on one
-- cell at one real moment, or exchanging neighbouring cells in one real step.'
use Rattle.std.specs.Prelude.{ℕ, zero, suc, ◌+◌, ◌≤◌, ◌<◌, min, ◌≡◌, Bool, true, false}
use Rattle.clashes.specs.Clash.{Travel}

-- a pattern: is carrier i held in the real step from moment n to moment n + 1?
abbrev pub Pattern : Type 0
Pattern = ℕ → ℕ → Bool

-- how often a carrier has been held, and how many steps of its route it has done, at a real moment
unfoldable pub held_by : (ℕ → Bool) → ℕ → ℕ
held_by held zero = zero
held_by held (suc n) = elim (held n) [ true ↦ suc (held_by held n) | false ↦ held_by held n ]

unfoldable pub done_by : (ℕ → Bool) → ℕ → ℕ
done_by held zero = zero
done_by held (suc n) = elim (held n) [ true ↦ done_by held n | false ↦ suc (done_by held n) ]

-- each carrier is held at most as often in all as it may slip
unfoldable pub Sparing : (ℕ → ℕ) → ℕ → Pattern → Type 0
Sparing slip m p = (i : ℕ) → i < m → (n : ℕ) → held_by (p i) n ≤ slip i

-- where carrier i is at a real moment: 'After H the carrier stands on its goal for ever.'
unfoldable pub place_at : Travel → Pattern → ℕ → ℕ → ℕ
place_at v p i n = v.at i (min (done_by (p i) n) v.horizon)

-- no collision of i and j at moment n, nor in the real step that starts there
pub record Clean (v : Travel) (p : Pattern) (i j n : ℕ) : Type 0 where
  pub not_together : place_at v p i n ≡ place_at v p j n → ⊥
  pub not_through : place_at v p i n ≡ place_at v p j (n + 1) → place_at v p j n ≡ place_at v p i (n + 1) → ⊥

-- the same with the word 'neighbouring': an exchange counts only where the two cells are near. Rule 5 and `Clean` leave the word
-- out. Where a step leads to a near cell or stays, as on lawful routes, the two say the same (law `near_survives`): cells that are
-- exchanged are then near, or they are one cell, on which the two are together already.
pub record CleanNear (near : ℕ → ℕ → Type 0) (v : Travel) (p : Pattern) (i j n : ℕ) : Type 0 where
  pub not_together : place_at v p i n ≡ place_at v p j n → ⊥
  pub not_through : near (place_at v p i n) (place_at v p j n) → place_at v p i n ≡ place_at v p j (n + 1) → place_at v p j n ≡ place_at v p i (n + 1) → ⊥

-- no pattern of holds ever brings two of m carriers together, at any real moment without end
unfoldable pub Survives : Travel → ℕ → Type 0
Survives v m = (p : Pattern) → Sparing v.slip m p → (i j : ℕ) → i < m → j < m → (i ≡ j → ⊥) → (n : ℕ) → Clean v p i j n

unfoldable pub SurvivesNear : (ℕ → ℕ → Type 0) → Travel → ℕ → Type 0
SurvivesNear near v m = (p : Pattern) → Sparing v.slip m p → (i j : ℕ) → i < m → j < m → (i ≡ j → ⊥) → (n : ℕ) → CleanNear near v p i j n
