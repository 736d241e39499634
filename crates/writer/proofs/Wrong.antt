-- Wrong answers that the contract of `write_route` rules out, at small layers; antt computes what is read off them. Assumes nothing.
use Prim.Native.Nat.{ℕ}
use native.Mathlib.Omega.{arith}
use mathlib.Core.Path.{◌≡◌, ap}
use mathlib.Core.List.{List, [], ◌∷◌, ◌++◌}
use lib.ListN.{get_or, replicate}
use Rattle.lists.specs.Lists.{range, only, keep, each}
use Rattle.hall.specs.Moves.{on_grid, cell_at, landing}
use Rattle.shuts.specs.Shuts.{has_digit, unless}
use Rattle.layers.specs.Fill.{one_more_than}
use Rattle.writer.specs.Write.{moves_by, wanted_by, stepped_to, read_way, read_route}

-- ---- a hall of 2 by 2, all open, from 0 to 3 with H 2: the routes 0 1 3 and 0 2 3 end at once and move as often

-- the moves left at steps 0, 1 and 2, and then the digits, of which those of the first cell at step 0 are `crossing`
abbrev square : ℕ → List ℕ
square crossing = (2 ∷ 255 ∷ 255 ∷ 255 ∷ []) ++ (255 ∷ 1 ∷ 1 ∷ 255 ∷ []) ++ (255 ∷ 255 ∷ 255 ∷ 0 ∷ []) ++ (crossing ∷ replicate 11 0)

-- the later of two cells that are as good
pub later_of_equal_cells : 0 ∷ 2 ∷ 3 ∷ [] ≡ read_route 2 2 2 (square 0) 0 → ⊥
unfolding read_way stepped_to wanted_by moves_by one_more_than has_digit unless landing on_grid cell_at range only keep each
later_of_equal_cells e = let z : ◌≡◌ {A = ℕ} 2 1 = ap (λ (r : List ℕ). get_or r 1 0) e in omega arith

-- a carrier that never moves
pub never_moves : 0 ∷ 0 ∷ 0 ∷ [] ≡ read_route 2 2 2 (square 0) 0 → ⊥
unfolding read_way stepped_to wanted_by moves_by one_more_than has_digit unless landing on_grid cell_at range only keep each
never_moves e = let z : ◌≡◌ {A = ℕ} 0 1 = ap (λ (r : List ℕ). get_or r 1 0) e in omega arith

-- nothing written, in a stretch lent with three bytes 9
pub nothing_written : 9 ∷ 9 ∷ 9 ∷ [] ≡ read_route 2 2 2 (square 0) 0 → ⊥
unfolding read_way stepped_to wanted_by moves_by one_more_than has_digit unless landing on_grid cell_at range only keep each
nothing_written e = let z : ◌≡◌ {A = ℕ} 9 0 = ap (λ (r : List ℕ). get_or r 0 0) e in omega arith

-- a barred crossing taken: the digit of the move right, 8, forbids 0 to 1
pub barred_crossing_taken : 0 ∷ 1 ∷ 3 ∷ [] ≡ read_route 2 2 2 (square 8) 0 → ⊥
unfolding read_way stepped_to wanted_by moves_by one_more_than has_digit unless landing on_grid cell_at range only keep each
barred_crossing_taken e = let z : ◌≡◌ {A = ℕ} 1 2 = ap (λ (r : List ℕ). get_or r 1 0) e in omega arith

-- ---- three cells in a row, from 0 to 2 with H 3, the goal barred at step 2: the routes 0 0 1 2 and 0 1 1 2 end at once and move twice

abbrev row : List ℕ
row = (2 ∷ 1 ∷ 2 ∷ []) ++ (2 ∷ 1 ∷ 2 ∷ []) ++ (255 ∷ 1 ∷ 255 ∷ []) ++ (255 ∷ 255 ∷ 0 ∷ []) ++ replicate 12 0

-- a stay counted as a move: then it would not be wanted at step 0
pub stay_counted : 0 ∷ 1 ∷ 1 ∷ 2 ∷ [] ≡ read_route 3 1 3 row 0 → ⊥
unfolding read_way stepped_to wanted_by moves_by one_more_than has_digit unless landing on_grid cell_at range only keep each
stay_counted e = let z : ◌≡◌ {A = ℕ} 1 0 = ap (λ (r : List ℕ). get_or r 1 0) e in omega arith
