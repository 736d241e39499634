-- What seeking a route promises: the answer is that of the best route, the layers then hold what is wanted to read it off, and nothing beyond
-- them changes.
use Rattle.std.specs.Prelude.{ℕ, ◌+◌, ◌*◌, ◌≤◌, ◌<◌, ◌≡◌, ◌⊎◌, Bool, true, false, not, ◌||◌, List, eqb, leb, length, get_or, Some, None}
use Rattle.lent.specs.Lent.{SameFrom}
use Rattle.hall.specs.Hall.{Hall, size}
use Rattle.hall.specs.declared.Grid.{Grid}
use Rattle.routes.specs.declared.Bar.{Bar}
use Rattle.marks.specs.Marks.{Marked, quiet_from}
use Rattle.shuts.specs.Shuts.{Floor}
use Rattle.shuts.specs.Post.{lent_hall}
use Rattle.layers.specs.Layers.{route_from, sought_of, found_by, FilledBy, Filled}
use Rattle.layers.specs.Sought.{Sought}
use Rattle.layers.specs.declared.Trip.{Trip}

-- layers for a pass that begins at step `last`
pub record Fillable (grid : Grid) (trip : Trip) (last : ℕ) (layers : List ℕ) : Type 0 where
  pub some : 1 ≤ grid.width
  pub wide : grid.width ≤ 16
  pub high : grid.height ≤ 16
  pub late : trip.horizon ≤ 63
  pub within : last ≤ trip.horizon
  pub inside : trip.goal < grid.width * grid.height
  pub room : (trip.horizon + 1) * (grid.width * grid.height) + (trip.horizon + 1) * (grid.width * grid.height) ≤ length layers

-- where no crossing is barred, no digit is set in the second plane
unfoldable pub NoCrossing : Bool → ℕ → ℕ → List ℕ → Type 0
NoCrossing crossing n h layers = crossing ≡ false → (t v : ℕ) → t ≤ h → v < n → get_or layers ((h + 1) * n + t * n + v) 0 ≡ 0

-- a way may be taken to end at step `late` as it may at the horizon: a carrier on its goal can rest from there on
unfoldable pub RestsFrom : List Bar → ℕ → ℕ → Type 0
RestsFrom bars h late = (late ≡ h) ⊎ (quiet_from h bars ≤ late)

-- what is found by step `soon` is the answer, unless the route may end later
unfoldable pub is_answer : ℕ → ℕ → ℕ → Bool
is_answer end soon h = not (eqb end 254) || eqb soon h

-- what the end at the start tells
unfoldable pub end_told : ℕ → Sought
end_told end = elim (leb 254 end) [ true ↦ None | false ↦ Some end ]

-- seeking a route that ends by step `late`: what is found of it
pub record SoughtBy (hall : Hall) (bars : List Bar) (start goal h late : ℕ) (before after : List ℕ) (end : ℕ) : Type 0 where
  pub found : end ≡ found_by hall bars goal h late 0 start
  pub filled : FilledBy hall bars goal h late end after
  pub kept : SameFrom ((h + 1) * size hall + (h + 1) * size hall) before after

-- in layers marked for any bars that let it rest, over any hall whose floor this is
abbrev pub SoughtOn : Grid → List ℕ → Trip → ℕ → List ℕ → List ℕ → ℕ → Type 0
SoughtOn grid floor trip late before after end =
    (bytes : List ℕ) (bars : List Bar) → Floor (lent_hall grid bytes) floor → Marked grid.width grid.height bars trip.horizon before → RestsFrom bars trip.horizon late → SoughtBy (lent_hall grid bytes) bars trip.start trip.goal trip.horizon late before after end

-- in layers marked anew for these bars, as far as the horizon
abbrev pub SoughtWhole : Grid → List ℕ → Trip → List Bar → List ℕ → List ℕ → ℕ → Type 0
SoughtWhole grid floor trip bars before after end =
    (bytes : List ℕ) → Floor (lent_hall grid bytes) floor → SoughtBy (lent_hall grid bytes) bars trip.start trip.goal trip.horizon trip.horizon before after end

pub record SoughtRoute (hall : Hall) (bars : List Bar) (start goal h : ℕ) (before after : List ℕ) (answer : Sought) : Type 0 where
  pub told : answer ≡ sought_of goal (route_from hall bars start goal h)
  pub filled : Filled hall bars start goal h after
  pub kept : SameFrom ((h + 1) * size hall + (h + 1) * size hall) before after
