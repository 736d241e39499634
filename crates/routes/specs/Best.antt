-- Document 01, 'The search tree', rule 2, a carrier's route under its bars, as document 02, P2, has it: 'Among routes of least cost take
-- those with the fewest moves, and among these the first in dictionary order', which is that of document 01, of the 'list of cells from 0
-- to H'. `RightRoute` says so; `best_route` finds it. The law `best_is_right` ties the two.
use Rattle.std.specs.Prelude.{ℕ, zero, suc, ◌+◌, ◌≤◌, ◌<◌, ◌≡◌, ◌⊎◌, Bool, true, false, ◌&&◌, ◌||◌, List, [], ◌∷◌, map, eqb, ltb}
use Rattle.std.proofs.Math.Option.{Option, none, some}
use Rattle.job.specs.Job.{Job}
use Rattle.routes.specs.Route.{Lawful, cost}
use Rattle.routes.specs.Bars.{Obeys, may_stand, may_turn}
use Rattle.routes.specs.declared.Bar.{Bar}

-- how often a route moves, over all its steps: a stay is no move
unfoldable pub moved : ℕ → ℕ → ℕ
moved v w = elim (eqb v w) [ true ↦ 0 | false ↦ 1 ]

unfoldable pub moves : List ℕ → ℕ
moves [] = 0
moves (v ∷ []) = 0
moves (v ∷ w ∷ r) = moved v w + moves (w ∷ r)

-- r does not come after s in the dictionary
unfoldable pub NotAfter : List ℕ → List ℕ → Type 0
NotAfter [] s = Unit {0}
NotAfter (x ∷ r) [] = ⊥
NotAfter (x ∷ r) (y ∷ s) = (x < y) ⊎ ((x ≡ y) × NotAfter r s)

-- a route that the bars leave to carrier i
pub record Allowed (job : Job) (i : ℕ) (bars : List Bar) (r : List ℕ) : Type 0 where
  pub lawful : Lawful job i r
  pub obeys : Obeys job.horizon r bars

pub record BestRoute (job : Job) (i : ℕ) (bars : List Bar) (r : List ℕ) : Type 0 where
  pub allowed : Allowed job i bars r
  pub least : (s : List ℕ) → Allowed job i bars s → cost (job.goal_of i) r ≤ cost (job.goal_of i) s
  pub fewest : (s : List ℕ) → Allowed job i bars s → cost (job.goal_of i) s ≡ cost (job.goal_of i) r → moves r ≤ moves s
  pub first : (s : List ℕ) → Allowed job i bars s → cost (job.goal_of i) s ≡ cost (job.goal_of i) r → moves s ≡ moves r → NotAfter r s

-- the best route, or none only where there is none
unfoldable pub RightRoute : Job → ℕ → List Bar → Option (List ℕ) → Type 0
RightRoute job i bars none = (s : List ℕ) → Allowed job i bars s → ⊥
RightRoute job i bars (some r) = BestRoute job i bars r

-- does s cost less than r, or as much with fewer moves?
unfoldable pub outdone : ℕ → List ℕ → List ℕ → Bool
outdone goal r s = ltb (cost goal s) (cost goal r) || (eqb (cost goal s) (cost goal r) && ltb (moves s) (moves r))

-- the first, unless the second outdoes it
unfoldable pub preferred : ℕ → List ℕ → List ℕ → List ℕ
preferred goal r s = elim (outdone goal r s) [ true ↦ s | false ↦ r ]

unfoldable pub better : ℕ → Option (List ℕ) → Option (List ℕ) → Option (List ℕ)
better goal none o = o
better goal (some r) none = some r
better goal (some r) (some s) = some (preferred goal r s)

unfoldable pub best_of : ℕ → List (Option (List ℕ)) → Option (List ℕ)
best_of goal [] = none
best_of goal (o ∷ os) = better goal o (best_of goal os)

unfoldable pub in_front : ℕ → Option (List ℕ) → Option (List ℕ)
in_front v none = none
in_front v (some r) = some (v ∷ r)

-- where a carrier may stand at a step, where it may turn from there, and its goal
module _ (stand : ℕ → ℕ → Bool) (turn : ℕ → ℕ → List ℕ) (goal : ℕ) where
  -- the best way on from v at step t with n steps left
  unfoldable pub best_way : ℕ → ℕ → ℕ → Option (List ℕ)
  best_way zero t v = elim (stand t v && eqb v goal) [ true ↦ some (v ∷ []) | false ↦ none ]
  best_way (suc n) t v = elim (stand t v) [ true ↦ best_of goal (map (λ w. in_front v (best_way n (suc t) w)) (turn t v)) | false ↦ none ]

unfoldable pub best_route : Job → ℕ → List Bar → Option (List ℕ)
best_route job i bars = best_way (may_stand job.hall bars) (may_turn job.hall bars) (job.goal_of i) job.horizon 0 (job.start_of i)
