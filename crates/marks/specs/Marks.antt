-- The bars that bind a carrier, marked in the layers of document 02, P2: 2 × (H + 1) × width × height bytes, that is two planes with a byte
-- for each step and cell. Not a reader's business beyond this file: the contracts of seeking and writing speak of the best route alone.
use Rattle.std.specs.Prelude.{ℕ, ◌+◌, ◌*◌, ◌/◌, ◌%◌, ◌^◌, min, max, ◌≤◌, ◌<◌, ◌≡◌, Bool, true, false, ◌||◌, List, [], ◌∷◌, get_or}
use Rattle.lists.specs.Lists.{any_of, sum_to}
use Rattle.hall.specs.Moves.{landing, move_count}
use Rattle.routes.specs.Bars.{bars_for, bars_cell, bars_way}
use Rattle.routes.specs.declared.Bar.{Bar}
use Rattle.routes.specs.declared.Bar.TheVariants.{Free, Stay, Cross}
use Rattle.records.specs.Columns.{chain_of}
use Rattle.marks.specs.declared.Bearing.{Bearing}

-- the bars that bind a carrier at a node, with one new bar in front
unfoldable pub bound_by : ℕ → List ℕ → ℕ → ℕ → Bar → List Bar
bound_by capacity columns node carrier bar = bar ∷ bars_for carrier (chain_of capacity columns node)

-- the first plane: 255 where a bar forbids the cell at the step
unfoldable pub stand_mark : List Bar → ℕ → ℕ → ℕ
stand_mark bars t v = elim (any_of (bars_cell t v) bars) [ true ↦ 255 | false ↦ 0 ]

-- the second: a binary digit for each move that a bar forbids there

unfoldable pub bars_move : ℕ → ℕ → List Bar → ℕ → ℕ → ℕ → Bool
bars_move width height bars t v m = any_of (λ w. any_of (bars_way t v w) bars) (landing width height (v / width) (v % width) m)

unfoldable pub digit : Bool → ℕ → ℕ
digit true m = 2 ^ m
digit false m = 0

unfoldable pub digits_of : ℕ → ℕ → List Bar → ℕ → ℕ → ℕ
digits_of width height bars t v = sum_to move_count (λ m. digit (bars_move width height bars t v m) m)

pub record Marked (width height : ℕ) (bars : List Bar) (h : ℕ) (layers : List ℕ) : Type 0 where
  pub stands : (t v : ℕ) → t ≤ h → v < width * height → get_or layers (t * (width * height) + v) 0 ≡ stand_mark bars t v
  pub crossings : (t v : ℕ) → t ≤ h → v < width * height → get_or layers ((h + 1) * (width * height) + t * (width * height) + v) 0 ≡ digits_of width height bars t v

-- does a bar forbid a crossing?
unfoldable pub crosses : Bar → Bool
crosses Free = false
crosses (Stay v a b) = false
crosses (Cross u v t) = true

-- a step from which on a bar forbids nothing, up to the horizon h
unfoldable pub bears_until : ℕ → Bar → ℕ
bears_until h Free = 0
bears_until h (Stay v a b) = min b h + 1
bears_until h (Cross u v t) = min t h + 1

-- from which on none of them forbids anything
unfoldable pub quiet_from : ℕ → List Bar → ℕ
quiet_from h [] = 0
quiet_from h (b ∷ bars) = max (bears_until h b) (quiet_from h bars)

-- what filling the layers asks of the bars beside their marks
unfoldable pub bearing_of : ℕ → List Bar → Bearing
bearing_of h bars = record { crossing = any_of crosses bars; until = quiet_from h bars }

-- what some bars and others are like together
unfoldable pub both_of : Bearing → Bearing → Bearing
both_of a b = record { crossing = a.crossing || b.crossing; until = max a.until b.until }
