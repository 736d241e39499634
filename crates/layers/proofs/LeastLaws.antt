-- The least of the ways on, as one cell is filled, is the least over the cells that a carrier may turn to: a move that stays on the grid and
-- whose digit is not set leads to the level of its cell, any other to none. Assumes nothing.
use Prim.Native.Nat.{ℕ, zero, suc, ◌+◌, ◌-◌, ◌*◌, ◌/◌, ◌%◌, min, max, ◌≤◌, ◌<◌}
use native.Mathlib.Nat.{add-mul, zero-mul, suc-mul, mul_comm, div-add-mod', mod-lt, div-lt_iff_lt-mul}
use native.Mathlib.Omega.{arith}
use mathlib.Core.Path.{◌≡◌, refl, sym, ap, ◌∙◌}
use mathlib.Core.Bool.{Bool, true, false, not, ◌||◌}
use mathlib.Core.List.{List, [], ◌∷◌, ◌++◌, map, map-append}
use lib.Arith.{digits_lt}
use lib.Dec.{eqb}
use lib.ListN.{get_or}
use borrow.Author.Tests.{lt-ltb, le-leb, eq-eqb, ne_eqb, eqb-false}
use Rattle.lists.specs.Lists.{range, only, each}
use Rattle.lists.proofs.Ranges.{map_same}
use Rattle.lists.proofs.Tests.{not_both, or_fails}
use Rattle.hall.specs.Hall.{Hall, size, is_open}
use Rattle.hall.specs.Moves.{row_changes, col_changes, row_after, col_after, on_grid, cell_at, landing, move_count}
use Rattle.hall.proofs.HallCode.{area_small, grid_bounds}
use Rattle.shuts.specs.Shuts.{has_digit, unless, turns_by, aside, shut_if, Shut}
use Rattle.shuts.proofs.Edges.{never_aside}
use Rattle.shuts.proofs.FloorLaws.{no_digit}
use Rattle.layers.specs.Fill.{one_more_than, paid_for, near_entry, shut_by, way_by, least_way, IsHalf, Pads, least_of, paid_to, least_onward}
use Rattle.layers.proofs.Turns.{turns_inside}

-- ---- the least of several

pub least_most : (cs : List ℕ) → least_of cs ≤ 255
unfolding least_of
least_most [] = omega arith
least_most (c ∷ cs) = omega (arith, least_most cs)

least_append : (cs ds : List ℕ) → least_of (cs ++ ds) ≡ min (least_of cs) (least_of ds)
unfolding least_of
least_append [] ds = omega (arith, least_most ds)
least_append (c ∷ cs) ds = let e : least_of (cs ++ ds) ≡ min (least_of cs) (least_of ds) = least_append cs ds in omega arith

module _ (f : ℕ → ℕ) (g : ℕ → List ℕ) where
  least_each : (m : ℕ) (ms : List ℕ) → least_of (map f (each g (m ∷ ms))) ≡ min (least_of (map f (g m))) (least_of (map f (each g ms)))
  unfolding each
  least_each m ms = rw map-append (least_append (map f (g m)) (map f (each g ms)))

  abbrev by : ℕ → ℕ
  by m = least_of (map f (g m))

  least_five : least_of (map f (each g (range 0 move_count))) ≡ min (by 0) (min (by 1) (min (by 2) (min (by 3) (min (by 4) 255))))
  unfolding range each least_of
  least_five = rw (least_each 0 (1 ∷ 2 ∷ 3 ∷ 4 ∷ []), least_each 1 (2 ∷ 3 ∷ 4 ∷ []), least_each 2 (3 ∷ 4 ∷ []), least_each 3 (4 ∷ []), least_each 4 []) refl

pub least_on_most : (hall : Hall) (moves : Bool) (next : ℕ → ℕ) (v digits : ℕ) → least_onward hall moves next v digits ≤ 255
unfolding least_onward
least_on_most hall moves next v digits = go (is_open hall v)
  where
    go : (b : Bool) → elim b [ true ↦ least_of (map (λ w. paid_to moves v w (next w)) (turns_by hall.width hall.height v digits)) | false ↦ 255 ] ≤ 255
    go true = least_most (map (λ w. paid_to moves v w (next w)) (turns_by hall.width hall.height v digits))
    go false = omega arith

-- only the levels of cells of the grid count
pub least_on_same : (hall : Hall) (moves : Bool) (f g : ℕ → ℕ) (v digits : ℕ) → ((w : ℕ) → w < size hall → f w ≡ g w) → least_onward hall moves f v digits ≡ least_onward hall moves g v digits
unfolding least_onward
least_on_same hall moves f g v digits h =
    ap (λ ls. elim (is_open hall v) [ true ↦ least_of ls | false ↦ 255 ])
    (map_same (λ w. paid_to moves v w (f w)) (λ w. paid_to moves v w (g w)) (turns_by hall.width hall.height v digits)
    (λ w m. ap (paid_to moves v w) (h w (turns_inside hall v digits w m))))

-- ---- what a way costs

paid_min : (moves : Bool) (a b : ℕ) → paid_for moves (min a b) ≡ min (paid_for moves a) (paid_for moves b)
unfolding paid_for one_more_than
paid_min true a b = omega arith
paid_min false a b = refl

paid_none : (moves : Bool) → paid_for moves 255 ≡ 255
unfolding paid_for one_more_than
paid_none true = refl
paid_none false = refl

paid_away : (moves : Bool) (v w level : ℕ) → (v ≡ w → ⊥) → paid_to moves v w level ≡ paid_for moves level
unfolding paid_to paid_for
paid_away true v w level n = rw (ne_eqb v w n, paid_to)
paid_away false v w level n = refl

paid_here : (moves : Bool) (v w level : ℕ) → v ≡ w → paid_to moves v w level ≡ level
unfolding paid_to
paid_here true v w level e = rw (eq-eqb v w e, paid_to)
paid_here false v w level e = refl

-- ---- one move, which leads to one cell where its digit is not set and it stays on the grid

way_least : (digit on : Bool) (cell level : ℕ) (next : ℕ → ℕ) → (digit ≡ true → 255 ≤ level) → (on ≡ false → 255 ≤ level) → (digit ≡ false → on ≡ true → level ≡ next cell) → min 255 level ≡ least_of (map next (unless digit (only on cell)))
unfolding least_of unless only
way_least true on cell level next d o e = omega (arith, d refl)
way_least false false cell level next d o e = omega (arith, o refl)
way_least false true cell level next d o e = omega (arith, e refl refl)

module _ (moves : Bool) (v : ℕ) (next : ℕ → ℕ) where
  move_paid : (digit on : Bool) (cell : ℕ) → (on ≡ true → v ≡ cell → ⊥) → least_of (map (λ w. paid_to moves v w (next w)) (unless digit (only on cell))) ≡ paid_for moves (least_of (map next (unless digit (only on cell))))
  unfolding least_of unless only
  move_paid true on cell n = sym (paid_none moves)
  move_paid false false cell n = sym (paid_none moves)
  move_paid false true cell n = rw (paid_away moves v cell (next cell) (n refl), paid_min moves (next cell) 255, paid_none moves)

  stay_free : (digit on : Bool) (cell : ℕ) → (on ≡ true → v ≡ cell) → least_of (map (λ w. paid_to moves v w (next w)) (unless digit (only on cell))) ≡ least_of (map next (unless digit (only on cell)))
  unfolding least_of unless only
  stay_free true on cell e = refl
  stay_free false false cell e = refl
  stay_free false true cell e = rw (paid_here moves v cell (next cell) (e refl))

-- ---- where it leads

entry_cell : (width at row col d e : ℕ) → 1 ≤ row + d → 1 ≤ col + e → at + (row * width + col) + width * d + e - (width + 1) ≡ at + ((row + d - 1) * width + (col + e - 1))
entry_cell width at row col d e h k =
    let whole : row * width + width * d ≡ (row + d - 1) * width + width = ap (λ x. row * width + x) (mul_comm width d) ∙ sym (add-mul row d width) ∙ one_back (row + d) h in
    omega arith
  where
    one_back : (n : ℕ) → 1 ≤ n → n * width ≡ (n - 1) * width + width
    one_back zero l = absurd (omega arith)
    one_back (suc n) l = let less : suc n - 1 ≡ n = omega arith in rw (less, suc-mul n width)

-- only the stay leads to the same entry
entry_stays : (width at : ℕ) → near_entry width at 2 ≡ at
unfolding near_entry
entry_stays width at = omega arith

entry_moves : (width at m : ℕ) → 1 ≤ width → width ≤ at → m < move_count → (m ≡ 2 → ⊥) → near_entry width at m ≡ at → ⊥
unfolding near_entry
entry_moves width at zero s l h n e = absurd (omega arith)
entry_moves width at (suc zero) s l h n e = absurd (omega arith)
entry_moves width at (suc (suc zero)) s l h n e = n refl
entry_moves width at (suc (suc (suc zero))) s l h n e = absurd (omega arith)
entry_moves width at (suc (suc (suc (suc zero)))) s l h n e = absurd (omega arith)
entry_moves width at (suc (suc (suc (suc (suc m))))) s l h n e = absurd (omega arith)

grid_on : (w h r c : ℕ) → 1 ≤ r → r ≤ h → 1 ≤ c → c ≤ w → on_grid w h r c ≡ true
unfolding on_grid
grid_on w h r c i j k l = rw (lt-ltb 0 r i, le-leb r h j, lt-ltb 0 c k, le-leb c w l)

-- the five places around a cell
module _ (width height v : ℕ) where
  abbrev on_after : ℕ → Bool
  on_after m = on_grid width height (row_after (v / width) m) (col_after (v % width) m)

  abbrev cell_after : ℕ → ℕ
  cell_after m = cell_at width (row_after (v / width) m) (col_after (v % width) m)

  entry_is : (at m : ℕ) → on_after m ≡ true → near_entry width (at + v) m ≡ at + cell_after m
  unfolding near_entry cell_at
  entry_is at m e =
      let on = grid_bounds width height (row_after (v / width) m) (col_after (v % width) m) e in
      ap (λ x. near_entry width (at + x) m) (sym (div-add-mod' v width))
      ∙ entry_cell width at (v / width) (v % width) (get_or row_changes m 1) (get_or col_changes m 1) on.0.0 on.1.0

  cell_low : (m : ℕ) → on_after m ≡ true → cell_after m < width * height
  unfolding cell_at
  cell_low m e =
      let on = grid_bounds width height (row_after (v / width) m) (col_after (v % width) m) e in
      rw (mul_comm width height) (digits_lt {q = row_after (v / width) m - 1} {m = height} {r = col_after (v % width) m - 1} {c = width} (omega (arith, on.0.0, on.0.1)) (omega (arith, on.1.0, on.1.1)))

  -- on the grid, no move is aside
  on_inside : (m : ℕ) → m < move_count → on_after m ≡ true → aside width v m ≡ false
  unfolding aside
  on_inside zero h e = refl
  on_inside (suc zero) h e =
      let on = grid_bounds width height (row_after (v / width) 1) (col_after (v % width) 1) e in
      rw (ne_eqb (v % width) 0 (λ q. absurd (omega (arith, on.1.0))))
  on_inside (suc (suc zero)) h e = refl
  on_inside (suc (suc (suc zero))) h e =
      let on = grid_bounds width height (row_after (v / width) 3) (col_after (v % width) 3) e in
      rw (ne_eqb (v % width + 1) width (λ q. absurd (omega (arith, on.1.1))))
  on_inside (suc (suc (suc (suc zero)))) h e = refl
  on_inside (suc (suc (suc (suc (suc m))))) h e = absurd (omega arith)

  off : (m : ℕ) → on_after m ≡ false → 1 ≤ row_after (v / width) m → row_after (v / width) m ≤ height → 1 ≤ col_after (v % width) m → col_after (v % width) m ≤ width → ⊥
  off m e i j k l = not_both (grid_on width height (row_after (v / width) m) (col_after (v % width) m) i j k l) e

  -- from a cell of the grid, a move leaves it up from the first row, left and right aside, down from the last row, and the stay never
  module _ (some : 1 ≤ width) (low : v < width * height) where
    row_low : v / width < height
    row_low = (div-lt_iff_lt-mul {k = width} {x = v} {y = height} some).1 (rw (mul_comm width height) at low)

    col_low : v % width < width
    col_low = mod-lt v some

    off_above : on_after 0 ≡ false → v < width
    off_above e =
        let n : ¬ (1 ≤ v / width) = λ i. off 0 e (omega arith) (omega (arith, row_low)) (omega arith) (omega (arith, col_low)) in
        let first : v / width ≡ 0 = omega arith in
        omega (arith, col_low, ap (λ r. r * width) first ∙ zero-mul width, div-add-mod' v width)

    off_left : on_after 1 ≡ false → aside width v 1 ≡ true
    unfolding aside
    off_left e =
        let n : ¬ (1 ≤ v % width) = λ i. off 1 e (omega arith) (omega (arith, row_low)) (omega arith) (omega (arith, col_low)) in
        rw (eq-eqb (v % width) 0 (omega arith))

    off_never : on_after 2 ≡ false → ⊥
    off_never e = off 2 e (omega arith) (omega (arith, row_low)) (omega arith) (omega (arith, col_low))

    off_right : on_after 3 ≡ false → aside width v 3 ≡ true
    unfolding aside
    off_right e =
        let n : ¬ (v % width + 2 ≤ width) = λ i. off 3 e (omega arith) (omega (arith, row_low)) (omega arith) i in
        rw (eq-eqb (v % width + 1) width (omega (arith, col_low)))

    off_below : on_after 4 ≡ false → width * height ≤ v + width
    off_below e =
        let n : ¬ (v / width + 2 ≤ height) = λ i. off 4 e (omega arith) i (omega arith) (omega (arith, col_low)) in
        let last : height ≡ suc (v / width) = omega (arith, row_low) in
        omega (arith, mul_comm width height ∙ ap (λ r. r * width) last ∙ suc-mul (v / width) width, div-add-mod' v width)

-- ---- the least of the five, put in their order

min_assoc : (a b c : ℕ) → min (min a b) c ≡ min a (min b c)
min_assoc a b c = omega arith

min_first : (s p q : ℕ) → min (min 255 s) (min p q) ≡ min (min p (min s q)) 255
min_first s p q = omega arith

min_none : (a b : ℕ) → min (min 255 a) (min b 255) ≡ min (min a b) 255
min_none a b = omega arith

min_last : (a : ℕ) → min (min 255 a) 255 ≡ min a 255
min_last a = omega arith

in_order : (u l s r d : ℕ) → min (min 255 s) (min (min u l) (min r d)) ≡ min (min 255 u) (min (min 255 l) (min (min 255 s) (min (min 255 r) (min (min 255 d) 255))))
in_order u l s r d =
    rw (min_last d, min_none r d, min_none s (min r d), min_none l (min s (min r d)), min_none u (min l (min s (min r d))), ← min_assoc u l (min s (min r d)))
    (min_first s (min u l) (min r d))

paid_order : (moves : Bool) (u l s r d : ℕ) → min (min 255 s) (paid_for moves (min (min u l) (min r d))) ≡ min (paid_for moves (min 255 u)) (min (paid_for moves (min 255 l)) (min (min 255 s) (min (paid_for moves (min 255 r)) (min (paid_for moves (min 255 d)) 255))))
paid_order moves u l s r d =
    rw (paid_min moves (min u l) (min r d), paid_min moves u l, paid_min moves r d, paid_min moves 255 u, paid_min moves 255 l, paid_min moves 255 r, paid_min moves 255 d, paid_none moves)
    (in_order (paid_for moves u) (paid_for moves l) s (paid_for moves r) (paid_for moves d))

-- ---- one cell

second_shuts : (a b : Bool) → b ≡ true → shut_if (a || b) ≡ 255
unfolding shut_if
second_shuts true b e = refl
second_shuts false b e = rw e

first_shuts : (a b : Bool) → a ≡ true → shut_if (a || b) ≡ 255
unfolding shut_if
first_shuts a b e = rw e

neither_shuts : (a b : Bool) → a ≡ false → b ≡ false → shut_if (a || b) ≡ 0
unfolding shut_if
neither_shuts a b e k = rw (e, k)

closed_none : (s p : ℕ) → max 255 (min (min 255 s) p) ≡ 255
closed_none s p = omega arith

module _ (hall : Hall) (moves crossing : Bool) (digits : ℕ → ℕ) (shuts slate : List ℕ) (next : ℕ → ℕ) (from v : ℕ)
    (shut : Shut hall digits shuts) (pads : Pads (size hall) slate) (half : IsHalf from) (read : (w : ℕ) → w < size hall → get_or slate (from + 16 + w) 0 ≡ next w)
    (none : crossing ≡ false → digits v ≡ 0) (some : 1 ≤ hall.width) (wide : hall.width ≤ 16) (high : hall.height ≤ 16) (low : v < size hall) where
  abbrev on : ℕ → Bool
  on m = on_after hall.width hall.height v m

  abbrev cell : ℕ → ℕ
  cell m = cell_after hall.width hall.height v m

  abbrev entry : ℕ → ℕ
  entry m = near_entry hall.width (from + 16 + v) m

  abbrev way : ℕ → ℕ
  way m = way_by crossing slate shuts hall.width (from + 16 + v) v m

  -- a byte that is not asked is 0
  shut_is : (m : ℕ) → m < move_count → shut_by crossing shuts v m ≡ shut_if (aside hall.width v m || has_digit (digits v) m)
  unfolding shut_by
  shut_is m h = go ((eqb m 1 || eqb m 3) || crossing) refl
    where
      go : (b : Bool) → ((eqb m 1 || eqb m 3) || crossing) ≡ b → elim b [ true ↦ get_or shuts (m * 256 + v) 0 | false ↦ 0 ] ≡ shut_if (aside hall.width v m || has_digit (digits v) m)
      go true e = shut.marks m v h low
      go false e =
          let (side, free) = or_fails (eqb m 1 || eqb m 3) crossing e in
          let (left, right) = or_fails (eqb m 1) (eqb m 3) side in
          sym (neither_shuts (aside hall.width v m) (has_digit (digits v) m) (never_aside hall.width v m (eqb-false m 1 left) (eqb-false m 3 right)) (ap (λ x. has_digit x m) (none free) ∙ no_digit m))

  way_is : (m : ℕ) → m < move_count → way m ≡ max (get_or slate (entry m) 0) (shut_if (aside hall.width v m || has_digit (digits v) m))
  unfolding way_by
  way_is m h = ap (max (get_or slate (entry m) 0)) (shut_is m h)

  way_shut : (m : ℕ) → m < move_count → shut_if (aside hall.width v m || has_digit (digits v) m) ≡ 255 → 255 ≤ way m
  way_shut m h e = omega (arith, way_is m h)

  way_pad : (m : ℕ) → m < move_count → get_or slate (entry m) 0 ≡ 255 → 255 ≤ way m
  way_pad m h e = omega (arith, way_is m h)

  -- off the grid lies a pad, above or below, or a byte is shut, left or right
  way_off : (m : ℕ) → m < move_count → on m ≡ false → 255 ≤ way m
  unfolding near_entry
  way_off zero h e =
      let above = off_above hall.width hall.height v some low e in
      let place : entry 0 ≡ from + (16 + v - hall.width) = omega arith in
      way_pad 0 h (ap (λ x. get_or slate x 0) place ∙ pads.above from (16 + v - hall.width) half (omega arith))
  way_off (suc zero) h e = way_shut 1 h (first_shuts (aside hall.width v 1) (has_digit (digits v) 1) (off_left hall.width hall.height v some low e))
  way_off (suc (suc zero)) h e = absurd (off_never hall.width hall.height v some low e)
  way_off (suc (suc (suc zero))) h e = way_shut 3 h (first_shuts (aside hall.width v 3) (has_digit (digits v) 3) (off_right hall.width hall.height v some low e))
  way_off (suc (suc (suc (suc zero)))) h e =
      let below = off_below hall.width hall.height v some low e in
      let small : size hall ≤ 256 = area_small wide high in
      let place : entry 4 ≡ from + (16 + v + hall.width) = omega arith in
      way_pad 4 h (ap (λ x. get_or slate x 0) place ∙ pads.below from (16 + v + hall.width) half (omega arith) (omega arith))
  way_off (suc (suc (suc (suc (suc m))))) h e = absurd (omega arith)

  way_on : (m : ℕ) → m < move_count → has_digit (digits v) m ≡ false → on m ≡ true → way m ≡ next (cell m)
  way_on m h d e =
      let free = neither_shuts (aside hall.width v m) (has_digit (digits v) m) (on_inside hall.width hall.height v m h e) d in
      let level = ap (λ x. get_or slate x 0) (entry_is hall.width hall.height v (from + 16) m e) ∙ read (cell m) (cell_low hall.width hall.height v m e) in
      way_is m h ∙ omega arith

  abbrev led : ℕ → List ℕ
  led m = unless (has_digit (digits v) m) (landing hall.width hall.height (v / hall.width) (v % hall.width) m)

  level_is : (m : ℕ) → m < move_count → min 255 (way m) ≡ least_of (map next (led m))
  unfolding landing
  level_is m h =
      way_least (has_digit (digits v) m) (on m) (cell m) (way m) next (λ d. way_shut m h (second_shuts (aside hall.width v m) (has_digit (digits v) m) d)) (way_off m h) (way_on m h)

  move_is : (m : ℕ) → m < move_count → (m ≡ 2 → ⊥) → least_of (map (λ w. paid_to moves v w (next w)) (led m)) ≡ paid_for moves (min 255 (way m))
  unfolding landing
  move_is m h n =
      move_paid moves v next (has_digit (digits v) m) (on m) (cell m)
      (λ e q. entry_moves hall.width (from + 16 + v) m some (omega arith) h n (entry_is hall.width hall.height v (from + 16) m e ∙ ap (λ x. from + 16 + x) (sym q)))
      ∙ ap (paid_for moves) (sym (level_is m h))

  stay_is : least_of (map (λ w. paid_to moves v w (next w)) (led 2)) ≡ min 255 (way 2)
  unfolding landing
  stay_is =
      stay_free moves v next (has_digit (digits v) 2) (on 2) (cell 2)
      (λ e. let same = sym (entry_stays hall.width (from + 16 + v)) ∙ entry_is hall.width hall.height v (from + 16) 2 e in omega arith)
      ∙ sym (level_is 2 (omega arith))

  open_least : least_way moves crossing slate shuts hall.width (from + 16 + v) v ≡ least_of (map (λ w. paid_to moves v w (next w)) (turns_by hall.width hall.height v (digits v)))
  unfolding least_way turns_by
  open_least =
      paid_order moves (way 0) (way 1) (way 2) (way 3) (way 4)
      ∙ rw (← move_is 0 (omega arith) (λ e. absurd (omega arith)), ← move_is 1 (omega arith) (λ e. absurd (omega arith)), ← stay_is, ← move_is 3 (omega arith) (λ e. absurd (omega arith)), ← move_is 4 (omega arith) (λ e. absurd (omega arith)))
      (sym (least_five (λ w. paid_to moves v w (next w)) led))

  pub least_on : max (get_or shuts (1280 + v) 0) (least_way moves crossing slate shuts hall.width (from + 16 + v) v) ≡ least_onward hall moves next v (digits v)
  unfolding least_onward shut_if least_way
  least_on = rw (shut.closed v low) (go (is_open hall v))
    where
      go : (b : Bool) → max (shut_if (not b)) (least_way moves crossing slate shuts hall.width (from + 16 + v) v) ≡ elim b [ true ↦ least_of (map (λ w. paid_to moves v w (next w)) (turns_by hall.width hall.height v (digits v))) | false ↦ 255 ]
      go true = omega (arith, open_least)
      go false = closed_none (way 2) (paid_for moves (min (min (way 0) (way 1)) (min (way 3) (way 4))))
