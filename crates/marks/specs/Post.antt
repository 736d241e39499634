-- What the markers ask and promise: from layers marked for any bars to layers marked for some more in front of them.
use Rattle.std.specs.Prelude.{ℕ, ◌+◌, ◌*◌, ◌/◌, ◌%◌, ◌^◌, ◌≤◌, ◌<◌, ◌≡◌, Bool, true, false, List, ◌++◌, ◌⊎◌, eqb, length, Option}
use Rattle.std.specs.List.{find, range_with_len}
use Rattle.lists.specs.Lists.{any_of}
use Rattle.lent.specs.Lent.{SameFrom}
use Rattle.hall.specs.Moves.{landing, move_count}
use Rattle.routes.specs.Bars.{bars_for}
use Rattle.routes.specs.declared.Bar.{Bar}
use Rattle.records.specs.Columns.{entry, own_bars, chain_of}
use Rattle.marks.specs.Marks.{Marked}

-- layers with two planes of a byte for each step up to h and each cell of a hall
pub record Layered (width height h : ℕ) (layers : List ℕ) : Type 0 where
  pub some : 1 ≤ width
  pub wide : width ≤ 16
  pub high : height ≤ 16
  pub late : h ≤ 63
  pub room : (h + 1) * (width * height) + (h + 1) * (width * height) ≤ length layers

pub record MarkedMore (width height h : ℕ) (more : List Bar) (before after : List ℕ) : Type 0 where
  pub marked : (bars : List Bar) → Marked width height bars h before → Marked width height (more ++ bars) h after
  pub kept : SameFrom ((h + 1) * (width * height) + (h + 1) * (width * height)) before after

pub record MarkedAll (width height h : ℕ) (bars : List Bar) (before after : List ℕ) : Type 0 where
  pub marked : Marked width height bars h after
  pub kept : SameFrom ((h + 1) * (width * height) + (h + 1) * (width * height)) before after

-- the ancestor from which the bars that bind a carrier go on: no record between it and x has one, and it has, or is the root
pub record BoundAbove (capacity : ℕ) (columns : List ℕ) (x carrier above : ℕ) : Type 0 where
  pub less : above < x
  pub goes_on : bars_for carrier (chain_of capacity columns x) ≡ bars_for carrier (own_bars capacity columns x) ++ bars_for carrier (chain_of capacity columns above)
  pub stops : (above ≡ 0) ⊎ (entry capacity columns 2 above ≡ carrier)

-- does move m lead from one cell to another?
abbrev pub leads : ℕ → ℕ → ℕ → ℕ → ℕ → Bool
leads width height from to m = any_of (eqb to) (landing width height (from / width) (from % width) m)

-- a move that leads there
pub record Leading (width height from to m : ℕ) : Type 0 where
  pub listed : m < move_count
  pub lands : leads width height from to m ≡ true

-- the first move from one cell to another, or none where none leads there
unfoldable pub MoveTo : ℕ → ℕ → ℕ → ℕ → Option ℕ → Type 0
MoveTo width height from to m = m ≡ find (leads width height from to) (range_with_len 0 move_count)

-- a number with one binary digit set
unfoldable pub with_digit : ℕ → ℕ → ℕ
with_digit x m = elim (eqb (x / 2 ^ m % 2) 0) [ true ↦ x + 2 ^ m | false ↦ x ]
