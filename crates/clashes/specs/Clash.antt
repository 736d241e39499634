-- Document 01, 'Routes, costs, meetings': meetings and swaps, with document 02's slips (P3).
use Rattle.std.specs.Prelude.{ℕ, ◌+◌, ◌≤◌, ◌<◌, ◌≡◌}

-- How the carriers travel: the cell of each at each step, how many steps each may slip, and the horizon H.
pub record Travel : Type 0 where
  pub at : ℕ → ℕ → ℕ
  pub slip : ℕ → ℕ
  pub horizon : ℕ

-- 'Carriers i and j meet if i at t and j at u are on one cell and u − t lies from −(slip of j) to slip of i.' Document 01: 'both
-- steps at most H'.
pub record MeetAt (v : Travel) (i j t u : ℕ) : Type 0 where
  pub two : i ≡ j → ⊥
  pub i_waits : u ≤ t + v.slip i
  pub j_waits : t ≤ u + v.slip j
  pub inside : (t ≤ v.horizon) × (u ≤ v.horizon)
  pub same : v.at i t ≡ v.at j u

-- The same with the earlier carrier first: i at step t, and j at step t + d, a distance of d later. Law `meet_written`.
pub record Meets (v : Travel) (i j t d : ℕ) : Type 0 where
  pub two : i ≡ j → ⊥
  pub near : d ≤ v.slip i
  pub inside : t + d ≤ v.horizon
  pub same : v.at i t ≡ v.at j (t + d)

-- Document 01: 'a swap at t: between t and t + 1 the two exchange neighbouring cells.' P3: 'Swaps count only between two carriers of
-- slip 0.' With a slip of 1 or more it is already a meeting (law `exchange_meets`). The meeting check counts an exchange 'whether the two
-- are neighbouring or not', and so does this. On lawful routes the word adds nothing: cells that are exchanged are neighbouring, or it
-- is one cell, and that is a meeting at t (law `exchange_neighbours` of crate checks).
pub record Swaps (v : Travel) (i j t : ℕ) : Type 0 where
  pub two : i ≡ j → ⊥
  pub none_slips : (v.slip i ≡ 0) × (v.slip j ≡ 0)
  pub inside : t + 1 ≤ v.horizon
  pub there : v.at i t ≡ v.at j (t + 1)
  pub back : v.at j t ≡ v.at i (t + 1)

-- no meeting and no swap among m carriers
pub record Apart (v : Travel) (m : ℕ) : Type 0 where
  pub meetings : (i j t d : ℕ) → i < m → j < m → Meets v i j t d → ⊥
  pub swaps : (i j t : ℕ) → i < m → j < m → Swaps v i j t → ⊥
