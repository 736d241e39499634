-- Document 01, 'Routes, costs, meetings': a route, its lawfulness and its cost.
use Rattle.std.specs.Prelude.{ℕ, zero, suc, ◌+◌, ◌*◌, ◌≤◌, ◌<◌, ◌≡◌, Bool, true, false, T, eqb, length, get_or, take, drop}
use mathlib.Core.List.{List, [], ◌∷◌, Memᴰ}
use Rattle.hall.specs.Hall.{is_open}
use Rattle.hall.specs.Moves.{may_follow}
use Rattle.job.specs.Job.{Job}

-- the cell of a route at a step
abbrev pub cell_of : List ℕ → ℕ → ℕ
cell_of r t = get_or r t 0

-- the route of carrier i in the bytes of a plan
unfoldable pub route_in : ℕ → List ℕ → ℕ → List ℕ
route_in h plan i = take (h + 1) (drop (i * (h + 1)) plan)

-- 'A route gives one cell for each step 0 to H: the start at 0, the goal at H, one lawful move or stay between.'
pub record Lawful (job : Job) (i : ℕ) (r : List ℕ) : Type 0 where
  pub long : length r ≡ job.horizon + 1
  pub starts : cell_of r 0 ≡ job.start_of i
  pub opens : T (is_open job.hall (cell_of r 0))
  pub follows : (t : ℕ) → t < job.horizon → Memᴰ (cell_of r (t + 1)) (may_follow job.hall (cell_of r t))
  pub ends : cell_of r job.horizon ≡ job.goal_of i

-- 'Its cost is the least step from which it is on its goal at every step up to H.'
pub record LeastStep (goal h : ℕ) (r : List ℕ) (c : ℕ) : Type 0 where
  pub within : c ≤ h
  pub stays : (t : ℕ) → c ≤ t → t ≤ h → cell_of r t ≡ goal
  pub least : (d : ℕ) → ((t : ℕ) → d ≤ t → t ≤ h → cell_of r t ≡ goal) → c ≤ d

-- one step more in front of a rest that costs c: nothing is added only where all of the rest is on the goal, and this too
unfoldable pub step_cost : Bool → ℕ → ℕ
step_cost true zero = zero
step_cost true (suc c) = suc (suc c)
step_cost false c = suc c

-- 'A stay before that costs 1, as a move does. Passing over the goal and leaving it again doesn't end the count.' The step is
-- counted from the end of the route; that it is the least one is the law `cost_least`.
unfoldable pub cost : ℕ → List ℕ → ℕ
cost goal [] = 0
cost goal (v ∷ r) = step_cost (eqb v goal) (cost goal r)
