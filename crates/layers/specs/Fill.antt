-- How a layer is made of the next, in two passes from some step back to 0. The first finds the steps at which the best ways end, the second,
-- of the ways that end at `last`, the fewest moves; `moves` says which. Not a reader's business: the laws `ends_filled` and `moves_filled`
-- tie it to the best way on.
use Rattle.std.specs.Prelude.{ℕ, ◌+◌, ◌-◌, ◌*◌, min, max, ◌≤◌, ◌<◌, ◌≡◌, Bool, true, false, not, ◌&&◌, ◌||◌, List, [], ◌∷◌, map, ◌⊎◌, eqb, length, get_or}
use Rattle.lent.specs.Made.{Made}
use Rattle.hall.specs.Hall.{Hall, size, is_open}
use Rattle.hall.specs.Moves.{row_changes, col_changes}
use Rattle.hall.specs.declared.Grid.{Grid}
use Rattle.shuts.specs.Shuts.{turns_by, shut_if, Floor}
use Rattle.shuts.specs.Post.{lent_hall}

-- ---- one cell

-- one more, but 255 stays none
unfoldable pub one_more_than : ℕ → ℕ
one_more_than level = min level 254 + 1

-- where moves are counted, a move is one more
unfoldable pub paid_for : Bool → ℕ → ℕ
paid_for true level = one_more_than level
paid_for false level = level

-- the entry that move m leads to from the entry `at`
unfoldable pub near_entry : ℕ → ℕ → ℕ → ℕ
near_entry width at m = at + width * get_or row_changes m 1 + get_or col_changes m 1 - (width + 1)

-- the bytes of shut moves that are asked: of moves sideways, and of all where some crossing is barred
unfoldable pub shut_by : Bool → List ℕ → ℕ → ℕ → ℕ
shut_by crossing shuts v m = elim ((eqb m 1 || eqb m 3) || crossing) [ true ↦ get_or shuts (m * 256 + v) 0 | false ↦ 0 ]

-- the level that move m leads to from cell v, whose entry in the half of the slate that is read is `at`
unfoldable pub way_by : Bool → List ℕ → List ℕ → ℕ → ℕ → ℕ → ℕ → ℕ
way_by crossing slate shuts width at v m = max (get_or slate (near_entry width at m) 0) (shut_by crossing shuts v m)

-- the least of the ways on: by the stay, which is no move, or by one of the four moves
unfoldable pub least_way : Bool → Bool → List ℕ → List ℕ → ℕ → ℕ → ℕ → ℕ
least_way moves crossing slate shuts width at v =
    min (min 255 (way_by crossing slate shuts width at v 2))
    (paid_for moves
    (min (min (way_by crossing slate shuts width at v 0) (way_by crossing slate shuts width at v 1)) (min (way_by crossing slate shuts width at v 3) (way_by crossing slate shuts width at v 4))))

unfoldable pub level_by : Bool → Bool → List ℕ → List ℕ → ℕ → ℕ → ℕ → ℕ → ℕ
level_by moves crossing slate shuts width from v mark = max (max mark (get_or shuts (1280 + v) 0)) (least_way moves crossing slate shuts width (from + 16 + v) v)

-- ---- one layer

-- the slate has two halves of 288 bytes, each a layer between two pads of 16: one is read, the other written
abbrev pub other_half : ℕ → ℕ
other_half from = 288 - from

unfoldable pub IsHalf : ℕ → Type 0
IsHalf from = (from ≡ 0) ⊎ (from ≡ 288)

-- no way leads from the pads, so none leads up from the first row or down from the last
pub record Pads (n : ℕ) (slate : List ℕ) : Type 0 where
  pub above : (from x : ℕ) → IsHalf from → x < 16 → get_or slate (from + x) 0 ≡ 255
  pub below : (from x : ℕ) → IsHalf from → 16 + n ≤ x → x < 288 → get_or slate (from + x) 0 ≡ 255

-- a half holds the same as a layer
abbrev pub Copied : ℕ → ℕ → ℕ → List ℕ → List ℕ → Type 0
Copied n base from slate layers = (v : ℕ) → v < n → get_or slate (from + 16 + v) 0 ≡ get_or layers (base + v) 0

pub record LayerMade (moves crossing : Bool) (shuts : List ℕ) (width n base from : ℕ) (slate layers slate' layers' : List ℕ) : Type 0 where
  pub layer : Made base n (level_by moves crossing slate shuts width from) layers layers'
  pub copied : Copied n base (other_half from) slate' layers'
  pub wide : length slate' ≡ length slate
  pub pads : Pads n slate → Pads n slate'

-- ---- one pass

-- what counts as a mark: in the second pass a cell from which the best way does not end at `last` is as good as barred
unfoldable pub mark_for : Bool → ℕ → ℕ → ℕ
mark_for false last byte = byte
mark_for true last byte = elim (eqb byte last) [ true ↦ 0 | false ↦ 255 ]

-- the levels at the step where the pass begins, where a carrier may stand: on the goal, and elsewhere, from where a way may still end later
unfoldable pub arrives : Bool → ℕ → ℕ
arrives false last = last
arrives true last = 0

unfoldable pub elsewhere : Bool → ℕ
elsewhere false = 254
elsewhere true = 255

unfoldable pub arrival : ℕ → ℕ → ℕ → (ℕ → ℕ) → ℕ → ℕ → ℕ
arrival goal level rest shut v mark = max (elim (eqb v goal) [ true ↦ level | false ↦ rest ]) (max mark (shut v))

pub record ArrivalLaid (goal level rest : ℕ) (shut : ℕ → ℕ) (n base : ℕ) (layers slate' layers' : List ℕ) : Type 0 where
  pub layer : Made base n (arrival goal level rest shut) layers layers'
  pub copied : Copied n base 0 slate' layers'
  pub wide : length slate' ≡ 576
  pub pads : Pads n slate'

-- where all of the rest is on the goal, the way ended when it came there
unfoldable pub rested : Bool → ℕ → ℕ → ℕ → ℕ → ℕ
rested true goal t v level = level
rested false goal t v level = elim (eqb v goal && eqb level (t + 1)) [ true ↦ t | false ↦ level ]

pub record RestLaid (moves : Bool) (goal t n base from : ℕ) (slate layers slate' layers' : List ℕ) : Type 0 where
  pub layer : Made base n (rested moves goal t) layers layers'
  pub copied : Copied n base from slate' layers'
  pub wide : length slate' ≡ length slate
  pub pads : Pads n slate → Pads n slate'

unfoldable pub least_of : List ℕ → ℕ
least_of [] = 255
least_of (c ∷ cs) = min c (least_of cs)

-- the level of a way from v by w
unfoldable pub paid_to : Bool → ℕ → ℕ → ℕ → ℕ
paid_to moves v w level = elim (moves && not (eqb v w)) [ true ↦ one_more_than level | false ↦ level ]

-- the least of the ways on from v, where `next` gives the levels one step later
unfoldable pub least_onward : Hall → Bool → (ℕ → ℕ) → ℕ → ℕ → ℕ
least_onward hall moves next v digits =
    elim (is_open hall v) [
      | true ↦ least_of (map (λ w. paid_to moves v w (next w)) (turns_by hall.width hall.height v digits))
      | false ↦ 255
    ]

-- a pass: the layers up to `last` are made of their marks, each of the next; the digits stand in the second plane
pub record Passed (hall : Hall) (moves : Bool) (goal plane last : ℕ) (before after : List ℕ) : Type 0 where
  pub arrived : (v : ℕ) → v < size hall → get_or after (last * size hall + v) 0 ≡ arrival goal (arrives moves last) (elsewhere moves) (λ w. shut_if (not (is_open hall w))) v (mark_for moves last (get_or before (last * size hall + v) 0))
  pub made : (t v : ℕ) → t < last → v < size hall → get_or after (t * size hall + v) 0 ≡ rested moves goal t v (max (mark_for moves last (get_or before (t * size hall + v) 0)) (least_onward hall moves (λ w. get_or after ((t + 1) * size hall + w) 0) v (get_or before (plane + t * size hall + v) 0)))

-- a pass over any hall whose floor this is
abbrev pub PassedOn : Grid → List ℕ → Bool → ℕ → ℕ → ℕ → List ℕ → List ℕ → Type 0
PassedOn grid floor moves goal plane last before after = (bytes : List ℕ) → Floor (lent_hall grid bytes) floor → Passed (lent_hall grid bytes) moves goal plane last before after
