-- What the entry point of the benchmark asks of its arguments and answers. It asks nothing of its caller: arguments that are not right are
-- answered 254, with the lent tables as they were.
use Rattle.std.specs.Prelude.{ℕ, ◌+◌, ◌*◌, ◌≤◌, ◌<◌, ◌≡◌, Bool, true, false, List, length}
use Rattle.std.proofs.Math.Option.{Option, none, some}
use Rattle.lent.specs.Lent.{SameFrom}
use Rattle.hall.specs.Hall.{Hall, size}
use Rattle.routes.specs.Route.{cost}
use Rattle.routes.specs.Bars.{bars_for}
use Rattle.routes.specs.declared.Bar.{Bar}
use Rattle.records.specs.Columns.{chain_of, Falls}
use Rattle.layers.specs.Layers.{route_from, Filled}

-- a test's answer tells whether P holds
unfoldable pub Tells : Type 0 → Bool → Type 0
Tells P true = P
Tells P false = P → ⊥

-- a hall of 1 to 16 by 1 to 16 cells, a byte for each, and a start and a goal inside it
pub record RightFloor (hall : List ℕ) (width height start goal : ℕ) : Type 0 where
  pub some_wide : 1 ≤ width
  pub wide : width ≤ 16
  pub some_high : 1 ≤ height
  pub high : height ≤ 16
  pub bytes : length hall ≡ width * height
  pub inside : start < width * height
  pub goal_inside : goal < width * height

-- room in the lent tables for each step up to a horizon: the layers need 2 × (H + 1) × width × height bytes (document 02, P2)
pub record RightRoom (size h : ℕ) (layers stretch : List ℕ) : Type 0 where
  pub late : h ≤ 63
  pub room : 2 * ((h + 1) * size) ≤ length layers
  pub long : length stretch ≡ h + 1

pub record RightArguments (hall : List ℕ) (width height start goal h : ℕ) (columns : List ℕ) (capacity node : ℕ) (layers stretch : List ℕ) : Type 0 where
  pub floor : RightFloor hall width height start goal
  pub records : Falls capacity columns node
  pub tables : RightRoom (width * height) h layers stretch

-- the hall of these bytes
abbrev pub hall_of : ℕ → ℕ → List ℕ → Hall
hall_of width height bytes = record { width = width; height = height; bytes = bytes }

-- the cost of a route, or 255 for none
unfoldable pub cost_told : ℕ → Option (List ℕ) → ℕ
cost_told goal none = 255
cost_told goal (some r) = cost goal r

-- what the lent stretch holds afterwards: the route, or what it held where there is none
unfoldable pub written_route : Option (List ℕ) → List ℕ → List ℕ
written_route none stretch = stretch
written_route (some r) stretch = r

-- the bars that bind a carrier at a node
abbrev pub bars_at : ℕ → List ℕ → ℕ → ℕ → List Bar
bars_at capacity columns node carrier = bars_for carrier (chain_of capacity columns node)

-- the cost and the stretch are those of the best route under these bars (rule 2), every byte of the layers is settled, and what lies past
-- them is as it was
pub record Told (hall : Hall) (bars : List Bar) (start goal h : ℕ) (layers layers-after stretch stretch-after : List ℕ) (answer : ℕ) : Type 0 where
  pub told : answer ≡ cost_told goal (route_from hall bars start goal h)
  pub written : stretch-after ≡ written_route (route_from hall bars start goal h) stretch
  pub filled : Filled hall bars start goal h layers-after
  pub kept : SameFrom (2 * ((h + 1) * size hall)) layers layers-after

pub record Refused (layers layers-after stretch stretch-after : List ℕ) (answer : ℕ) : Type 0 where
  pub told : answer ≡ 254
  pub unwritten : stretch-after ≡ stretch
  pub unfilled : layers-after ≡ layers

-- right arguments are answered by the best route, others are refused
pub record Answered (right : Type 0) (hall : Hall) (bars : List Bar) (start goal h : ℕ) (layers layers-after stretch stretch-after : List ℕ) (answer : ℕ) : Type 0 where
  pub answers : right → Told hall bars start goal h layers layers-after stretch stretch-after answer
  pub refuses : (right → ⊥) → Refused layers layers-after stretch stretch-after answer
