-- The cell that the layers lead to is the first of those a carrier may turn to by which as many moves are left as wanted: only the stay leads
-- to the same cell, so the moves are counted by cell as they are by move. So it is a cell of the grid. Assumes nothing.
use Prim.Native.Nat.{ℕ, zero, suc, ◌+◌, ◌-◌, ◌*◌, ◌/◌, ◌%◌, ◌<◌}
use native.Mathlib.Nat.{div-add-mod'}
use native.Mathlib.Omega.{arith}
use native.Mathlib.Decide.{ℕ_discrete}
use mathlib.Core.Path.{◌≡◌, refl, sym, ap, ◌∙◌}
use mathlib.Core.Bool.{Bool, true, false}
use mathlib.Core.List.{List, [], ◌∷◌, Memᴰ}
use lib.Arith.{digits_div, digits_mod}
use lib.Dec.{eqb}
use lib.ListN.{get_or}
use borrow.Author.Tests.{eq-eqb, ne_eqb}
use Rattle.lists.specs.Lists.{range, keep, each}
use Rattle.lists.proofs.Members.{only_member, keep_member}
use Rattle.lists.proofs.Ranges.{each_same, keep-each, keep_same}
use Rattle.lists.proofs.Tests.{is_true}
use Rattle.hall.specs.Moves.{row_after, col_after, on_grid, cell_at, landing, move_count}
use Rattle.hall.proofs.HallCode.{grid_bounds}
use Rattle.shuts.specs.Shuts.{has_digit, unless, turns_by}
use Rattle.layers.specs.Fill.{paid_to}
use Rattle.layers.proofs.Turns.{turns_inside}
use Rattle.writer.specs.Write.{moves_by, wanted_by, stepped_to}

-- ---- only the stay leads to the same cell

module _ (width height v : ℕ) where
  abbrev on_after : ℕ → Bool
  on_after m = on_grid width height (row_after (v / width) m) (col_after (v % width) m)

  abbrev cell_after : ℕ → ℕ
  cell_after m = cell_at width (row_after (v / width) m) (col_after (v % width) m)

  stay_here : cell_after 2 ≡ v
  unfolding cell_at
  stay_here =
      let row : v / width + 1 - 1 ≡ v / width = omega arith in
      let col : v % width + 1 - 1 ≡ v % width = omega arith in
      rw (row, col) (div-add-mod' v width)

  -- row and column are those of the cell, so neither has changed
  same_place : (m : ℕ) → on_after m ≡ true → v ≡ cell_after m → (v / width + 1 ≡ row_after (v / width) m) × (v % width + 1 ≡ col_after (v % width) m)
  unfolding cell_at
  same_place m e q =
      let on = grid_bounds width height (row_after (v / width) m) (col_after (v % width) m) e in
      let low : col_after (v % width) m - 1 < width = omega (arith, on.1.0, on.1.1) in
      let row : v / width ≡ row_after (v / width) m - 1 = ap (λ x. x / width) q ∙ digits_div (row_after (v / width) m - 1) {m = width} {r = col_after (v % width) m - 1} low in
      let col : v % width ≡ col_after (v % width) m - 1 = ap (λ x. x % width) q ∙ digits_mod (row_after (v / width) m - 1) {m = width} {r = col_after (v % width) m - 1} low in
      (omega (arith, on.0.0), omega (arith, on.1.0))

  move_away : (m : ℕ) → m < move_count → (m ≡ 2 → ⊥) → on_after m ≡ true → v ≡ cell_after m → ⊥
  move_away zero h n e q = let same = same_place 0 e q in absurd (omega arith)
  move_away (suc zero) h n e q = let same = same_place 1 e q in absurd (omega arith)
  move_away (suc (suc zero)) h n e q = n refl
  move_away (suc (suc (suc zero))) h n e q = let same = same_place 3 e q in absurd (omega arith)
  move_away (suc (suc (suc (suc zero)))) h n e q = let same = same_place 4 e q in absurd (omega arith)
  move_away (suc (suc (suc (suc (suc m))))) h n e q = absurd (omega arith)

  -- so the moves of a way are counted by its cells
  moves_paid : (m w left : ℕ) → m < move_count → Memᴰ w (landing width height (v / width) (v % width) m) → moves_by m left ≡ paid_to true v w left
  unfolding landing moves_by paid_to
  moves_paid m w left h i =
      let (on, there) = only_member {x = w} (on_after m) i in
      elim (ℕ_discrete m 2) [
        | yes e ↦ free (eq-eqb m 2 e) (eq-eqb v w (sym (there ∙ ap cell_after e ∙ stay_here)))
        | no n ↦ paid (ne_eqb m 2 n) (ne_eqb v w (λ q. move_away m h n (is_true on) (q ∙ there)))
      ]
    where
      free : eqb m 2 ≡ true → eqb v w ≡ true → moves_by m left ≡ paid_to true v w left
      free e q = rw (e, q, moves_by, paid_to)

      paid : eqb m 2 ≡ false → eqb v w ≡ false → moves_by m left ≡ paid_to true v w left
      paid e q = rw (e, q, moves_by, paid_to)

-- ---- the first cell that is wanted

module _ (width height : ℕ) (layers : List ℕ) (next v digits target : ℕ) where
  -- as many moves are left by w as are wanted
  abbrev suits : ℕ → Bool
  suits w = eqb (paid_to true v w (get_or layers (next + w) 0)) target

  wanted_suits : (m : ℕ) → m < move_count → wanted_by width height layers next v digits target m ≡ keep suits (unless (has_digit digits m) (landing width height (v / width) (v % width) m))
  unfolding wanted_by unless keep
  wanted_suits m h = go (has_digit digits m)
    where
      go : (b : Bool) → keep (λ w. eqb (moves_by m (get_or layers (next + w) 0)) target) (unless b (landing width height (v / width) (v % width) m)) ≡ keep suits (unless b (landing width height (v / width) (v % width) m))
      go true = refl
      go false =
          keep_same (λ w. eqb (moves_by m (get_or layers (next + w) 0)) target) suits (landing width height (v / width) (v % width) m)
          (λ w i. ap (λ x. eqb x target) (moves_paid width height v m w (get_or layers (next + w) 0) h i))

  wanted_turns : each (wanted_by width height layers next v digits target) (range 0 move_count) ≡ keep suits (turns_by width height v digits)
  unfolding turns_by
  wanted_turns =
      each_same (wanted_by width height layers next v digits target) (λ m. keep suits (unless (has_digit digits m) (landing width height (v / width) (v % width) m))) 0 move_count (λ m _ h. wanted_suits m h)
      ∙ sym (keep-each suits (λ m. unless (has_digit digits m) (landing width height (v / width) (v % width) m)) (range 0 move_count))

module _ (width height h : ℕ) (layers : List ℕ) (t v : ℕ) where
  -- the digits of barred crossings that start on v at t
  abbrev crossed : ℕ
  crossed = get_or layers ((h + 1) * (width * height) + t * (width * height) + v) 0

  pub stepped_turns : stepped_to width height h layers t v ≡ get_or (keep (λ w. eqb (paid_to true v w (get_or layers ((t + 1) * (width * height) + w) 0)) (get_or layers (t * (width * height) + v) 0)) (turns_by width height v crossed)) 0 v
  unfolding stepped_to
  stepped_turns = ap (λ ws. get_or ws 0 v) (wanted_turns width height layers ((t + 1) * (width * height)) v crossed (get_or layers (t * (width * height) + v) 0))

  first_inside : (ws : List ℕ) → ((w : ℕ) → Memᴰ w ws → w < width * height) → v < width * height → get_or ws 0 v < width * height
  first_inside [] i l = l
  first_inside (w ∷ ws) i l = i w (Memᴰ.head refl)

  pub stepped_inside : v < width * height → stepped_to width height h layers t v < width * height
  stepped_inside l =
      rw stepped_turns
      (first_inside (keep (λ w. eqb (paid_to true v w (get_or layers ((t + 1) * (width * height) + w) 0)) (get_or layers (t * (width * height) + v) 0)) (turns_by width height v crossed))
      (λ w i. turns_inside (record { width = width; height = height; bytes = [] }) v crossed w (keep_member (λ w. eqb (paid_to true v w (get_or layers ((t + 1) * (width * height) + w) 0)) (get_or layers (t * (width * height) + v) 0)) (turns_by width height v crossed) i).0)
      l)
