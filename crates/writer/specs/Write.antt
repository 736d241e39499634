-- How a route is read off the layers: from each cell it goes on by the first of those that no bar forbids, in the order of cell numbers, from
-- which as many moves are left as are wanted. Where no move is left it stays. Not a reader's business: the law `read_is_best` ties it to the
-- best route.
use Rattle.std.specs.Prelude.{ℕ, zero, suc, ◌+◌, ◌*◌, ◌/◌, ◌%◌, true, false, List, [], ◌∷◌, eqb, get_or, replicate}
use Rattle.lists.specs.Lists.{range, keep, each}
use Rattle.hall.specs.Moves.{landing, move_count}
use Rattle.shuts.specs.Shuts.{has_digit, unless}
use Rattle.layers.specs.Fill.{one_more_than}

-- the moves of a way by move m, of those that are left where it leads
unfoldable pub moves_by : ℕ → ℕ → ℕ
moves_by m left = elim (eqb m 2) [ true ↦ left | false ↦ one_more_than left ]

-- the cell that move m leads to, if no bar forbids it and as many moves are left by it as are wanted
unfoldable pub wanted_by : ℕ → ℕ → List ℕ → ℕ → ℕ → ℕ → ℕ → ℕ → List ℕ
wanted_by width height layers next v digits target m =
    keep (λ w. eqb (moves_by m (get_or layers (next + w) 0)) target) (unless (has_digit digits m) (landing width height (v / width) (v % width) m))

module _ (width height h : ℕ) (layers : List ℕ) where
  -- the cell at t + 1 that move m leads to from v at t, if it is wanted
  abbrev pub wanted_on : ℕ → ℕ → ℕ → List ℕ
  wanted_on t v = wanted_by width height layers ((t + 1) * (width * height)) v (get_or layers ((h + 1) * (width * height) + t * (width * height) + v) 0) (get_or layers (t * (width * height) + v) 0)

  -- the cell at t + 1 of the way from v at t: the first such cell, or v itself if there is none
  unfoldable pub stepped_to : ℕ → ℕ → ℕ
  stepped_to t v = get_or (each (wanted_on t v) (range 0 move_count)) 0 v

  -- the way from v at t, with n steps left
  unfoldable pub read_way : ℕ → ℕ → ℕ → List ℕ
  read_way zero t v = v ∷ []
  read_way (suc n) t v = elim (eqb (get_or layers (t * (width * height) + v) 0) 0) [ true ↦ replicate (suc (suc n)) v | false ↦ v ∷ read_way n (t + 1) (stepped_to t v) ]

  abbrev pub read_route : ℕ → List ℕ
  read_route start = read_way h 0 start
