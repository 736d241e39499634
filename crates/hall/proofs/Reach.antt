-- The cells one move or a stay away. A cell is in reach exactly where a move of the table leads to it, said in rows and
-- columns (`reach-moves`, `moves-reach`); what else is wanted is read off the five moves. They rise since the moves do.
-- Assumes nothing.
use Prim.Native.Nat.{ℕ, zero, suc, ◌+◌, ◌-◌, ◌*◌, ◌/◌, ◌%◌, ◌≤◌, ◌<◌}
use mathlib.Core.Path.{◌≡◌, refl, sym}
use mathlib.Core.Logic.{◌⊎◌, inl, inr}
use mathlib.Core.Bool.{◌&&◌}
use mathlib.Core.List.{Memᴰ}
use native.Mathlib.Nat.{zero-mul, mul_comm, div-add-mod', mod-lt, div-lt_iff_lt-mul}
use native.Mathlib.Omega.{arith}
use native.Mathlib.Decide.{dec_lt, ℕ_discrete}
use lib.Dec.{T, leb, ltb, leb→le, le→leb}
use lib.ListN.{get_or}
use lib.Arith.{digits_lt, digits_div, digits_mod}
use Rattle.lists.specs.Lists.{range, Every}
use Rattle.lists.proofs.Members.{only_member, member_only, keep_member, member_keep, each_member, member_each, range_member, member_range}
use Rattle.lists.proofs.Every.{only_every, every_below}
use Rattle.lists.proofs.Orders.{Ordered, ordered_imply, ordered_only, ordered_each, Rising}
use Rattle.lists.proofs.Tests.{of_true, and_both, both_and}
use Rattle.hall.specs.Hall.{Hall, size, is_open}
use Rattle.hall.specs.Near.{Near, Neighbours}
use Rattle.hall.specs.Moves.{row_changes, col_changes, move_count, row_after, col_after, on_grid, cell_at, landing, reach_from, reach, may_follow}

-- ---- a place on the grid, row and column from 1

record OnGrid (width height r c : ℕ) : Type 0 where
  under : 0 < r
  over : r ≤ height
  after : 0 < c
  before : c ≤ width

grid_fact : (width height r c : ℕ) → T (on_grid width height r c) → OnGrid width height r c
unfolding on_grid
grid_fact width height r c h =
    let rows = and_both (ltb 0 r && leb r height) (ltb 0 c && leb c width) h in
    let row = and_both (ltb 0 r) (leb r height) rows.0 in
    let col = and_both (ltb 0 c) (leb c width) rows.1 in
    record { under = leb→le 1 r row.0; over = leb→le r height row.1; after = leb→le 1 c col.0; before = leb→le c width col.1 }

grid_test : (width height r c : ℕ) → OnGrid width height r c → T (on_grid width height r c)
unfolding on_grid
grid_test width height r c g =
    both_and (ltb 0 r && leb r height) (ltb 0 c && leb c width)
    (both_and (ltb 0 r) (leb r height) (le→leb 1 r g.under) (le→leb r height g.over))
    (both_and (ltb 0 c) (leb c width) (le→leb 1 c g.after) (le→leb c width g.before))

landing_member : {u : ℕ} (width height row col m : ℕ) → Memᴰ u (landing width height row col m) → OnGrid width height (row_after row m) (col_after col m) × (u ≡ cell_at width (row_after row m) (col_after col m))
unfolding landing
landing_member width height row col m n =
    let f = only_member (on_grid width height (row_after row m) (col_after col m)) n in
    (grid_fact width height (row_after row m) (col_after col m) f.0, f.1)

member_landing : {u : ℕ} (width height row col m : ℕ) → OnGrid width height (row_after row m) (col_after col m) → u ≡ cell_at width (row_after row m) (col_after col m) → Memᴰ u (landing width height row col m)
unfolding landing
member_landing width height row col m g e = member_only (on_grid width height (row_after row m) (col_after col m)) (grid_test width height (row_after row m) (col_after col m) g) e

-- ---- cells in reach rise

-- an earlier row, or the same row and an earlier column
unfoldable Earlier : ℕ → ℕ → ℕ → ℕ → Type 0
Earlier row col i j = (row_after row i < row_after row j) ⊎ ((row_after row i ≡ row_after row j) × (col_after col i < col_after col j))

moves_in_order : (row col : ℕ) → Ordered (Earlier row col) (range 0 move_count)
unfolding Ordered Every range Earlier
moves_in_order row col = (
  (inl (omega arith), (inl (omega arith), (inl (omega arith), (inl (omega arith), tt)))),
  (
    (inr (refl, omega arith), (inr (refl, omega arith), (inl (omega arith), tt))),
    ((inr (refl, omega arith), (inl (omega arith), tt)), ((inl (omega arith), tt), (tt, tt))),
  ),
)

cells_rise : (width height r c s d : ℕ) → OnGrid width height r c → OnGrid width height s d → (r < s) ⊎ ((r ≡ s) × (c < d)) → cell_at width r c < cell_at width s d
unfolding cell_at
cells_rise width height r c s d g k (inl h) =
    let lt : (r - 1) * width + (c - 1) < (s - 1) * width = digits_lt {q = r - 1} {m = s - 1} {r = c - 1} {c = width} (omega arith) (omega arith) in
    omega arith
cells_rise width height r c s d g k (inr h) = let lt : c - 1 < d - 1 = omega arith in rw h.0 (omega arith)

reach_from_rises : (width height row col : ℕ) → Rising (reach_from width height row col)
unfolding Rising reach_from landing Earlier
reach_from_rises width height row col =
    ordered_each (λ x y. x < y) (landing width height row col) (range 0 move_count)
    (every_below (λ m. Ordered (λ x y. x < y) (landing width height row col m)) move_count
    (λ m _. ordered_only (λ x y. x < y) (on_grid width height (row_after row m) (col_after col m)) (cell_at width (row_after row m) (col_after col m))))
    (ordered_imply (Earlier row col) (λ i j. Every (λ x. Every (λ y. x < y) (landing width height row col j)) (landing width height row col i))
    (λ i j e.
    only_every (λ x. Every (λ y. x < y) (landing width height row col j)) (on_grid width height (row_after row i) (col_after col i)) (cell_at width (row_after row i) (col_after col i))
    (λ g.
    only_every (λ y. cell_at width (row_after row i) (col_after col i) < y) (on_grid width height (row_after row j) (col_after col j)) (cell_at width (row_after row j) (col_after col j))
    (λ k.
    cells_rise width height (row_after row i) (col_after col i) (row_after row j) (col_after col j)
    (grid_fact width height (row_after row i) (col_after col i) (of_true g)) (grid_fact width height (row_after row j) (col_after col j) (of_true k)) e)))
    (range 0 move_count) (moves_in_order row col))

pub reach_rises : (hall : Hall) (v : ℕ) → Rising (reach hall v)
unfolding reach
reach_rises hall v = reach_from_rises hall.width hall.height (v / hall.width) (v % hall.width)

-- ---- a cell by its row and column

cell_place : (width height r c : ℕ) → OnGrid width height r c → (cell_at width r c < width * height) × (cell_at width r c / width + 1 ≡ r) × (cell_at width r c % width + 1 ≡ c)
unfolding cell_at
cell_place width height r c g =
    let low : c - 1 < width = omega arith in (
      rw (mul_comm width height) (digits_lt {q = r - 1} {m = height} {r = c - 1} {c = width} (omega arith) low),
      rw (digits_div (r - 1) {m = width} {r = c - 1} low) (omega arith),
      rw (digits_mod (r - 1) {m = width} {r = c - 1} low) (omega arith),
    )

place_cell : (width height u : ℕ) → u < width * height → OnGrid width height (u / width + 1) (u % width + 1) × (u ≡ cell_at width (u / width + 1) (u % width + 1))
unfolding cell_at
place_cell zero height u h = absurd (omega (arith, rw zero-mul at h))
place_cell (suc w) height u h =
    let low : u % suc w < suc w = mod-lt u (omega arith) in
    let over : u / suc w < height = (div-lt_iff_lt-mul {k = suc w} {x = u} {y = height} (omega arith)).1 (rw (mul_comm (suc w) height) at h) in
    let row : u / suc w + 1 - 1 ≡ u / suc w = omega arith in
    let col : u % suc w + 1 - 1 ≡ u % suc w = omega arith in
    (record { under = omega arith; over = omega arith; after = omega arith; before = omega arith }, rw (row, col) (sym (div-add-mod' u (suc w))))

-- ---- a cell in reach is one that a move leads to

-- move m leads from v to u; rows and columns from 1
pub record Leads (hall : Hall) (v u m : ℕ) : Type 0 where
  pub listed : m < move_count
  pub inside : u < size hall
  pub row : u / hall.width + 1 ≡ row_after (v / hall.width) m
  pub col : u % hall.width + 1 ≡ col_after (v % hall.width) m

landing_leads : (hall : Hall) (v u m : ℕ) → m < move_count → Memᴰ u (landing hall.width hall.height (v / hall.width) (v % hall.width) m) → Leads hall v u m
landing_leads hall v u m listed n =
    let f = landing_member hall.width hall.height (v / hall.width) (v % hall.width) m n in
    let p = cell_place hall.width hall.height (row_after (v / hall.width) m) (col_after (v % hall.width) m) f.0 in
    record { listed = listed; inside = rw f.1 p.0; row = rw f.1 p.1; col = rw f.1 p.2 }

reach_leads : (hall : Hall) (v u : ℕ) → Memᴰ u (reach hall v) → (m : ℕ) × Leads hall v u m
unfolding reach reach_from
reach_leads hall v u n =
    let (m, listed, lands) = each_member (landing hall.width hall.height (v / hall.width) (v % hall.width)) (range 0 move_count) n in
    (m, landing_leads hall v u m (range_member 0 move_count listed).1 lands)

leads_reach : (hall : Hall) (v u m : ℕ) → Leads hall v u m → Memᴰ u (reach hall v)
unfolding reach reach_from
leads_reach hall v u m f =
    let p = place_cell hall.width hall.height u f.inside in
    member_each (landing hall.width hall.height (v / hall.width) (v % hall.width)) (range 0 move_count) (member_range 0 move_count (omega arith) f.listed)
    (member_landing hall.width hall.height (v / hall.width) (v % hall.width) m (rw (f.row, f.col) at p.0) (rw (f.row, f.col) at p.1))

-- ---- what the moves say

-- every move has one that leads back, its mirror in the table
back : (m : ℕ) → m < move_count → (get_or row_changes m 1 + get_or row_changes (4 - m) 1 ≡ 2) × (get_or col_changes m 1 + get_or col_changes (4 - m) 1 ≡ 2)
back zero h = (refl, refl)
back (suc zero) h = (refl, refl)
back (suc (suc zero)) h = (refl, refl)
back (suc (suc (suc zero))) h = (refl, refl)
back (suc (suc (suc (suc zero)))) h = (refl, refl)
back (suc (suc (suc (suc (suc m))))) h = absurd (omega arith)

pub reach_inside : (hall : Hall) (v u : ℕ) → Memᴰ u (reach hall v) → u < size hall
reach_inside hall v u n = (reach_leads hall v u n).1.inside

pub stay_in_reach : (hall : Hall) (v : ℕ) → v < size hall → Memᴰ v (reach hall v)
stay_in_reach hall v h = leads_reach hall v v 2 (record { listed = omega arith; inside = h; row = refl; col = refl })

pub reach_symmetric : (hall : Hall) (v u : ℕ) → v < size hall → Memᴰ u (reach hall v) → Memᴰ v (reach hall u)
reach_symmetric hall v u h n =
    let (m, f) = reach_leads hall v u n in
    let b = back m f.listed in
    leads_reach hall u v (4 - m) (record { listed = omega arith; inside = h; row = omega arith; col = omega arith })

near_move : (width u v m : ℕ) → m < move_count → u / width + 1 ≡ row_after (v / width) m → u % width + 1 ≡ col_after (v % width) m → Near width u v
unfolding Near
near_move width u v zero h r c = inr (omega arith, omega arith, omega arith)
near_move width u v (suc zero) h r c = inl (omega arith, omega arith, omega arith)
near_move width u v (suc (suc zero)) h r c = inl (omega arith, omega arith, omega arith)
near_move width u v (suc (suc (suc zero))) h r c = inl (omega arith, omega arith, omega arith)
near_move width u v (suc (suc (suc (suc zero)))) h r c = inr (omega arith, omega arith, omega arith)
near_move width u v (suc (suc (suc (suc (suc m))))) h r c = absurd (omega arith)

pub reach_near : (hall : Hall) (v u : ℕ) → Memᴰ u (reach hall v) → Near hall.width u v
reach_near hall v u n = let (m, f) = reach_leads hall v u n in near_move hall.width u v m f.listed f.row f.col

-- and what is near is in reach: a cell of the grid on either side, above or below, or the same
pub near_reach : (hall : Hall) (v u : ℕ) → u < size hall → Near hall.width u v → Memᴰ u (reach hall v)
unfolding Near
near_reach hall v u h (inl f) =
    elim (dec_lt (u % hall.width) (v % hall.width)) [
      | yes less ↦ leads_reach hall v u 1 (record { listed = omega arith; inside = h; row = omega arith; col = omega arith })
      | no from ↦
          elim (dec_lt (v % hall.width) (u % hall.width)) [
            | yes more ↦ leads_reach hall v u 3 (record { listed = omega arith; inside = h; row = omega arith; col = omega arith })
            | no to ↦ leads_reach hall v u 2 (record { listed = omega arith; inside = h; row = omega arith; col = omega arith })
          ]
    ]
near_reach hall v u h (inr f) =
    elim (dec_lt (u / hall.width) (v / hall.width)) [
      | yes less ↦ leads_reach hall v u 0 (record { listed = omega arith; inside = h; row = omega arith; col = omega arith })
      | no from ↦
          elim (dec_lt (v / hall.width) (u / hall.width)) [
            | yes more ↦ leads_reach hall v u 4 (record { listed = omega arith; inside = h; row = omega arith; col = omega arith })
            | no to ↦ leads_reach hall v u 2 (record { listed = omega arith; inside = h; row = omega arith; col = omega arith })
          ]
    ]

-- a step leads to a neighbour, or stays
pub reach_neighbours : (hall : Hall) (v u : ℕ) → Memᴰ u (reach hall v) → (u ≡ v) ⊎ Neighbours hall.width u v
reach_neighbours hall v u n = elim (ℕ_discrete u v) [ yes e ↦ inl e | no ne ↦ inr (record { near = reach_near hall v u n; different = ne }) ]

-- ---- the cells that may follow: in reach, and open

pub follow_opens : (hall : Hall) (u v : ℕ) → Memᴰ v (may_follow hall u) → T (is_open hall v)
unfolding may_follow
follow_opens hall u v m = (keep_member (is_open hall) (reach hall u) m).1

pub follow_reaches : (hall : Hall) (u v : ℕ) → Memᴰ v (may_follow hall u) → Memᴰ v (reach hall u)
unfolding may_follow
follow_reaches hall u v m = (keep_member (is_open hall) (reach hall u) m).0

pub reach_follows : (hall : Hall) (u v : ℕ) → Memᴰ v (reach hall u) → T (is_open hall v) → Memᴰ v (may_follow hall u)
unfolding may_follow
reach_follows hall u v m h = member_keep (is_open hall) (reach hall u) m h
