-- Wrong answers that the contracts of the two teams rule out, at the carriers of the book that document 01 prints, 3→5 and 1→7, the
-- first with slip 2 and the other with slip 0: as bytes they are 3 5 2 1 7 0. Assumes nothing.
use Prim.Native.Nat.{ℕ}
use native.Mathlib.Omega.{arith}
use mathlib.Core.Path.{◌≡◌, ap}
use mathlib.Core.List.{List, [], ◌∷◌}
use lib.ListN.{get_or}
use Rattle.job.specs.declared.Team.{Team}
use Rattle.carriers.specs.Lent.{bytes_team, records_team}
use Rattle.carriers.specs.declared.Carrier.{Carrier}

-- ---- team_of_bytes

-- all starts, then all goals and then all slips, for the three in turn
pub starts_before_goals : record { starts = 3 ∷ 5 ∷ 0 ∷ 0 ∷ 0 ∷ 0 ∷ 0 ∷ 0 ∷ []; goals = 2 ∷ 1 ∷ 0 ∷ 0 ∷ 0 ∷ 0 ∷ 0 ∷ 0 ∷ []; slips = 7 ∷ 0 ∷ 0 ∷ 0 ∷ 0 ∷ 0 ∷ 0 ∷ 0 ∷ []; count = 2 } ≡ bytes_team (3 ∷ 5 ∷ 2 ∷ 1 ∷ 7 ∷ 0 ∷ []) → ⊥
starts_before_goals e = let z : ◌≡◌ {A = ℕ} 2 5 = ap (λ (t : Team). get_or t.goals 0 0) e in omega arith

-- the goal of carrier 0 for that of carrier 1
pub goal_of_another_carrier : record { starts = 3 ∷ 1 ∷ 0 ∷ 0 ∷ 0 ∷ 0 ∷ 0 ∷ 0 ∷ []; goals = 5 ∷ 5 ∷ 0 ∷ 0 ∷ 0 ∷ 0 ∷ 0 ∷ 0 ∷ []; slips = 2 ∷ 0 ∷ 0 ∷ 0 ∷ 0 ∷ 0 ∷ 0 ∷ 0 ∷ []; count = 2 } ≡ bytes_team (3 ∷ 5 ∷ 2 ∷ 1 ∷ 7 ∷ 0 ∷ []) → ⊥
goal_of_another_carrier e = let z : ◌≡◌ {A = ℕ} 5 7 = ap (λ (t : Team). get_or t.goals 1 0) e in omega arith

-- the slip of carrier 0 for all
pub one_slip_for_all : record { starts = 3 ∷ 1 ∷ 0 ∷ 0 ∷ 0 ∷ 0 ∷ 0 ∷ 0 ∷ []; goals = 5 ∷ 7 ∷ 0 ∷ 0 ∷ 0 ∷ 0 ∷ 0 ∷ 0 ∷ []; slips = 2 ∷ 2 ∷ 0 ∷ 0 ∷ 0 ∷ 0 ∷ 0 ∷ 0 ∷ []; count = 2 } ≡ bytes_team (3 ∷ 5 ∷ 2 ∷ 1 ∷ 7 ∷ 0 ∷ []) → ⊥
one_slip_for_all e = let z : ◌≡◌ {A = ℕ} 2 0 = ap (λ (t : Team). get_or t.slips 1 0) e in omega arith

-- pairs of start and goal, without slips
pub pairs_for_threes : record { starts = 3 ∷ 2 ∷ 7 ∷ 0 ∷ 0 ∷ 0 ∷ 0 ∷ 0 ∷ []; goals = 5 ∷ 1 ∷ 0 ∷ 0 ∷ 0 ∷ 0 ∷ 0 ∷ 0 ∷ []; slips = 0 ∷ 0 ∷ 0 ∷ 0 ∷ 0 ∷ 0 ∷ 0 ∷ 0 ∷ []; count = 3 } ≡ bytes_team (3 ∷ 5 ∷ 2 ∷ 1 ∷ 7 ∷ 0 ∷ []) → ⊥
pairs_for_threes e = let z : ◌≡◌ {A = ℕ} 3 2 = ap (λ (t : Team). t.count) e in omega arith

-- ---- team_of_records

abbrev two : List Carrier
two = record { start = 3; goal = 5; slip = 2 } ∷ record { start = 1; goal = 7; slip = 0 } ∷ []

-- the start of carrier 0 for its goal
pub start_for_goal : record { starts = 3 ∷ 1 ∷ 0 ∷ 0 ∷ 0 ∷ 0 ∷ 0 ∷ 0 ∷ []; goals = 3 ∷ 7 ∷ 0 ∷ 0 ∷ 0 ∷ 0 ∷ 0 ∷ 0 ∷ []; slips = 2 ∷ 0 ∷ 0 ∷ 0 ∷ 0 ∷ 0 ∷ 0 ∷ 0 ∷ []; count = 2 } ≡ records_team two → ⊥
start_for_goal e = let z : ◌≡◌ {A = ℕ} 3 5 = ap (λ (t : Team). get_or t.goals 0 0) e in omega arith

-- the two slips exchanged
pub slips_exchanged : record { starts = 3 ∷ 1 ∷ 0 ∷ 0 ∷ 0 ∷ 0 ∷ 0 ∷ 0 ∷ []; goals = 5 ∷ 7 ∷ 0 ∷ 0 ∷ 0 ∷ 0 ∷ 0 ∷ 0 ∷ []; slips = 0 ∷ 2 ∷ 0 ∷ 0 ∷ 0 ∷ 0 ∷ 0 ∷ 0 ∷ []; count = 2 } ≡ records_team two → ⊥
slips_exchanged e = let z : ◌≡◌ {A = ℕ} 0 2 = ap (λ (t : Team). get_or t.slips 0 0) e in omega arith

-- eight carriers whatever the list
pub always_eight : record { starts = 3 ∷ 1 ∷ 0 ∷ 0 ∷ 0 ∷ 0 ∷ 0 ∷ 0 ∷ []; goals = 5 ∷ 7 ∷ 0 ∷ 0 ∷ 0 ∷ 0 ∷ 0 ∷ 0 ∷ []; slips = 2 ∷ 0 ∷ 0 ∷ 0 ∷ 0 ∷ 0 ∷ 0 ∷ 0 ∷ []; count = 8 } ≡ records_team two → ⊥
always_eight e = let z : ◌≡◌ {A = ℕ} 8 2 = ap (λ (t : Team). t.count) e in omega arith
