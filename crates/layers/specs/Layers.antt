-- The layers of document 02, P2: 2 × (H + 1) × width × height bytes, two planes with a byte for each step and cell. In the first a barred cell
-- is marked (crate marks), then each byte becomes the step at which the best way on from there ends, then, up to the end of the best route,
-- the moves of that way. The second keeps the digits of barred crossings. Not a reader's business beyond this file: the contracts of
-- seeking and writing speak of the best route alone.
use Rattle.std.specs.Prelude.{ℕ, zero, suc, ◌+◌, ◌-◌, ◌*◌, ◌/◌, ◌%◌, min, max, ◌≤◌, ◌<◌, ◌≡◌, Bool, true, false, ◌&&◌, List, eqb, leb, get_or, Some, None}
use Rattle.std.proofs.Math.Option.{Option, none, some}
use Rattle.lists.specs.Lists.{any_of}
use Rattle.hall.specs.Hall.{Hall, size}
use Rattle.routes.specs.Route.{cost}
use Rattle.routes.specs.Bars.{may_stand, may_turn}
use Rattle.routes.specs.Best.{moves, best_way}
use Rattle.routes.specs.declared.Bar.{Bar}
use Rattle.marks.specs.Marks.{stand_mark, digits_of, quiet_from}
use Rattle.layers.specs.Sought.{Sought}

-- the best way from a cell at a step to the horizon, and the best route (rule 2)
unfoldable pub way_from : Hall → List Bar → ℕ → ℕ → ℕ → ℕ → Option (List ℕ)
way_from hall bars goal h t v = best_way (may_stand hall bars) (may_turn hall bars) goal (h - t) t v

abbrev pub route_from : Hall → List Bar → ℕ → ℕ → ℕ → Option (List ℕ)
route_from hall bars start goal h = best_way (may_stand hall bars) (may_turn hall bars) goal h 0 start

unfoldable pub sought_of : ℕ → Option (List ℕ) → Sought
sought_of goal none = None
sought_of goal (some r) = Some (cost goal r)

-- the step at which a way from step t on ends, 255 where there is none
unfoldable pub end_of : ℕ → ℕ → Option (List ℕ) → ℕ
end_of goal t none = 255
end_of goal t (some r) = t + cost goal r

-- the moves of a way, where it ends at step `last`, and otherwise 255
unfoldable pub moves_of : Option (List ℕ) → ℕ
moves_of none = 255
moves_of (some r) = moves r

unfoldable pub moves_to : ℕ → ℕ → ℕ → Option (List ℕ) → ℕ
moves_to goal last t o = elim (eqb (end_of goal t o) last) [ true ↦ moves_of o | false ↦ 255 ]

-- ---- how far they are filled

-- how far apart two rows or two columns are, and a start and a goal by both
abbrev pub apart : ℕ → ℕ → ℕ
apart a b = a - b + (b - a)

abbrev pub away : ℕ → ℕ → ℕ → ℕ
away width start goal = apart (start / width) (goal / width) + apart (start % width) (goal % width)

-- a step by which the best route has most likely ended, and from which on no bar forbids anything, or the horizon: as many steps as the goal
-- is away, or as the bars bear, and two for a way round
unfoldable pub soon_by : ℕ → ℕ → ℕ → ℕ → ℕ → ℕ
soon_by width start goal h until = min h (max until (away width start goal) + 2)

-- may a carrier that is on v at step t go on for m steps, wherever to?
module _ (stand : ℕ → ℕ → Bool) (turn : ℕ → ℕ → List ℕ) where
  unfoldable pub can_go_on : ℕ → ℕ → ℕ → Bool
  can_go_on zero t v = stand t v
  can_go_on (suc m) t v = stand t v && any_of (can_go_on m (suc t)) (turn t v)

-- what is found of a way if no end after `late` is: its end, or 254 where a carrier goes on so long and it may end later, or 255
unfoldable pub end_by : ℕ → ℕ → Bool → ℕ
end_by late end on = elim (leb end late) [ true ↦ end | false ↦ elim on [ true ↦ 254 | false ↦ 255 ] ]

unfoldable pub found_by : Hall → List Bar → ℕ → ℕ → ℕ → ℕ → ℕ → ℕ
found_by hall bars goal h late t v = end_by late (end_of goal t (way_from hall bars goal h t v)) (can_go_on (may_stand hall bars) (may_turn hall bars) (late - t) t v)

-- the layers are filled from `soon`, and where the route may end later from the horizon
unfoldable pub filled_from : ℕ → ℕ → ℕ → ℕ
filled_from soon h found = elim (eqb found 254) [ true ↦ h | false ↦ soon ]

unfoldable pub late_for : Hall → List Bar → ℕ → ℕ → ℕ → ℕ
late_for hall bars start goal h =
    let soon = soon_by hall.width start goal h (quiet_from h bars) in
    filled_from soon h (found_by hall bars goal h soon 0 start)

-- a byte of the first plane that was filled from `late`, where the best route ends at `last`: up to there moves, then up to `late` what is
-- found, beyond it the marks; where there is no route, no moves
unfoldable pub byte_at : Hall → List Bar → ℕ → ℕ → ℕ → ℕ → ℕ → ℕ → ℕ
byte_at hall bars goal h late last t v =
    elim (leb last h && leb t last) [
      | true ↦ moves_to goal last t (way_from hall bars goal h t v)
      | false ↦ elim (leb t late) [ true ↦ found_by hall bars goal h late t v | false ↦ stand_mark bars t v ]
    ]

-- both planes, where the route that was found ends at `last`
pub record FilledBy (hall : Hall) (bars : List Bar) (goal h late last : ℕ) (layers : List ℕ) : Type 0 where
  pub levels : (t v : ℕ) → t ≤ h → v < size hall → get_or layers (t * size hall + v) 0 ≡ byte_at hall bars goal h late last t v
  pub crossings : (t v : ℕ) → t ≤ h → v < size hall → get_or layers ((h + 1) * size hall + t * size hall + v) 0 ≡ digits_of hall.width hall.height bars t v

abbrev pub Filled : Hall → List Bar → ℕ → ℕ → ℕ → List ℕ → Type 0
Filled hall bars start goal h layers = FilledBy hall bars goal h (late_for hall bars start goal h) (end_of goal 0 (route_from hall bars start goal h)) layers
