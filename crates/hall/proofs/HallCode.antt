-- What the code of the hall rests on: a grid has at most 256 cells, and each way through the code gives what the definition
-- gives where its tests came out so. Assumes nothing.
use Prim.Native.Nat.{ℕ, ◌+◌, ◌-◌, ◌*◌, ◌/◌, ◌%◌, ◌≤◌, ◌<◌}
use native.Mathlib.Nat.{mul-le-mul}
use native.Mathlib.Omega.{arith}
use mathlib.Core.Path.{◌≡◌}
use mathlib.Core.Bool.{true, false, ◌&&◌}
use lib.Dec.{eqb, ltb, leb, ltb→lt, leb→le}
use lib.ListN.{get_or}
use borrow.Author.Tests.{lt-ltb}
use Rattle.lists.specs.Lists.{only, any_of}
use Rattle.lists.proofs.Passing.{any_kept}
use Rattle.lists.proofs.Tests.{of_true, and_both}
use Rattle.hall.specs.Hall.{Hall, size, is_open}
use Rattle.hall.specs.Moves.{row_after, col_after, on_grid, cell_at, landing, reach_from, reach, may_follow}
use Rattle.hall.specs.Landing.{landed}
use Rattle.std.specs.Prelude.{None, Some}

pub area_small : {w h : ℕ} → w ≤ 16 → h ≤ 16 → w * h ≤ 256
area_small a b = mul-le-mul a b

-- a byte for each of 64 steps and each cell
pub layers_small : {h size : ℕ} → h ≤ 63 → size ≤ 256 → (h + 1) * size ≤ 16384
layers_small {h} a b = let n : h + 1 ≤ 64 = omega arith in mul-le-mul n b

-- ---- the open cells

pub open_read : (hall : Hall) (v : ℕ) → v < size hall → eqb (get_or hall.bytes v 0) 46 ≡ is_open hall v
unfolding is_open
open_read hall v l = simp (lt-ltb v (size hall) l)

-- ---- where a move leads

pub grid_bounds : (w h r c : ℕ) → on_grid w h r c ≡ true → ((1 ≤ r) × (r ≤ h)) × ((1 ≤ c) × (c ≤ w))
unfolding on_grid
grid_bounds w h r c e =
    let (rows, cols) = and_both (ltb 0 r && leb r h) (ltb 0 c && leb c w) (of_true e) in
    let (r0, r1) = and_both (ltb 0 r) (leb r h) rows in
    let (c0, c1) = and_both (ltb 0 c) (leb c w) cols in
    ((ltb→lt 0 r r0, leb→le r h r1), (ltb→lt 0 c c0, leb→le c w c1))

module _ (w h row col m r c : ℕ) (er : r ≡ row_after row m) (ec : c ≡ col_after col m) where
  pub landed_cell : on_grid w h r c ≡ true → landed (Some ((r - 1) * w + (c - 1))) ≡ landing w h row col m
  unfolding landed landing cell_at only
  landed_cell e = simp (← er, ← ec, e)

  pub landed_off : on_grid w h r c ≡ false → landed None ≡ landing w h row col m
  unfolding landed landing only
  landed_off e = simp (← er, ← ec, e)

-- what may follow is open and one move or a stay away
pub follows_test : (hall : Hall) (v to : ℕ) → (is_open hall to && any_of (eqb to) (reach_from hall.width hall.height (v / hall.width) (v % hall.width))) ≡ any_of (eqb to) (may_follow hall v)
unfolding may_follow reach
follows_test hall v to = any_kept (is_open hall) to (reach hall v)
