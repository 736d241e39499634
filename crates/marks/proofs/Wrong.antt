-- Wrong answers that the contracts of `digit_of` and `mark_all` rule out. Those of `mark_all` are of two cells in a row with H 1, so that
-- each plane has four bytes; antt computes which bars bind, and what their marks are. Assumes nothing.
use Prim.Native.Nat.{ℕ, ◌^◌}
use native.Mathlib.Omega.{arith}
use mathlib.Core.Path.{◌≡◌, refl, sym, ap, ◌∙◌}
use mathlib.Core.Bool.{Bool, true, false}
use mathlib.Core.List.{List, [], ◌∷◌}
use lib.ListN.{get_or}
use Rattle.lists.specs.Lists.{only, any_of, sum_to}
use Rattle.lists.proofs.Tests.{not_both}
use Rattle.hall.specs.Moves.{on_grid, cell_at, landing}
use Rattle.routes.specs.Bars.{bars_for, bars_cell, bars_way}
use Rattle.routes.specs.declared.Bar.{Bar}
use Rattle.routes.specs.declared.Bar.TheVariants.{Free, Stay, Cross}
use Rattle.records.specs.Columns.{bar_from, bar_at, is_bar, own_bars, chains, chain_of}
use Rattle.marks.specs.Marks.{bound_by, stand_mark, bars_move, digit, digits_of, crosses, bears_until, quiet_from, bearing_of}
use Rattle.marks.specs.Post.{MarkedAll}
use Rattle.marks.specs.declared.Bearing.{Bearing}

-- ---- digit_of

-- twice the move's number for two to its power
pub twice_for_power : 6 ≡ 2 ^ 3 → ⊥
twice_for_power e = let z : ◌≡◌ {A = ℕ} 6 8 = e in omega arith

-- the digits of moves 2 and 3 exchanged
pub digits_exchanged : 8 ≡ 2 ^ 2 → ⊥
digits_exchanged e = let z : ◌≡◌ {A = ℕ} 8 4 = e in omega arith

-- ---- mark_all

-- columns for three nodes, each the parent of the next: node 0 bars carrier 0 from cell 1 at steps 0 to 1, node 1 bars carrier 1 from cell
-- 0 at these steps, node 2 has no bar
abbrev three : List ℕ
three = 0 ∷ 0 ∷ 1 ∷ 1 ∷ 1 ∷ 0 ∷ 0 ∷ 1 ∷ 0 ∷ 1 ∷ 0 ∷ 0 ∷ 0 ∷ 0 ∷ 0 ∷ 1 ∷ 1 ∷ 0 ∷ 0 ∷ 0 ∷ 0 ∷ 0 ∷ 0 ∷ 0 ∷ []

-- what is left where node 2 is asked for a carrier, with one new bar
abbrev Left : ℕ → Bar → List ℕ → List ℕ → Type 0
Left carrier bar before after = MarkedAll 2 1 1 (bound_by 3 three 2 carrier bar) before after

of_carrier_0 : (bar : Bar) → bound_by 3 three 2 0 bar ≡ bar ∷ Stay 1 0 1 ∷ []
unfolding bound_by bars_for chain_of chains own_bars is_bar bar_at bar_from only
of_carrier_0 bar = refl

of_carrier_1 : bound_by 3 three 2 1 Free ≡ Free ∷ Stay 0 0 1 ∷ []
unfolding bound_by bars_for chain_of chains own_bars is_bar bar_at bar_from only
of_carrier_1 = refl

of_carrier_2 : (bar : Bar) → bound_by 3 three 2 2 bar ≡ bar ∷ []
unfolding bound_by bars_for chain_of chains own_bars is_bar bar_at bar_from only
of_carrier_2 bar = refl

-- the last step of a bar not marked
pub last_step_left_out : (before after : List ℕ) → Left 0 Free before after → get_or after 3 0 ≡ 0 → ⊥
unfolding stand_mark bars_cell any_of
last_step_left_out before after m wrong =
    let z : ◌≡◌ {A = ℕ} 0 255 = sym wrong ∙ m.marked.stands 1 1 (omega arith) (omega arith) ∙ ap (λ (bars : List Bar). stand_mark bars 1 1) (of_carrier_0 Free) in
    omega arith

-- the walk ends before the root: its bar is not marked at any step
pub root_left_out : (before after : List ℕ) → Left 0 Free before after → get_or after 1 0 ≡ 0 → ⊥
unfolding stand_mark bars_cell any_of
root_left_out before after m wrong =
    let z : ◌≡◌ {A = ℕ} 0 255 = sym wrong ∙ m.marked.stands 0 1 (omega arith) (omega arith) ∙ ap (λ (bars : List Bar). stand_mark bars 0 1) (of_carrier_0 Free) in
    omega arith

-- the ancestors asked for another carrier: the bar of carrier 1 is not marked
pub bar_of_the_carrier_left_out : (before after : List ℕ) → Left 1 Free before after → get_or after 0 0 ≡ 0 → ⊥
unfolding stand_mark bars_cell any_of
bar_of_the_carrier_left_out before after m wrong =
    let z : ◌≡◌ {A = ℕ} 0 255 = sym wrong ∙ m.marked.stands 0 0 (omega arith) (omega arith) ∙ ap (λ (bars : List Bar). stand_mark bars 0 0) of_carrier_1 in
    omega arith

-- a crossing, the move to the right from cell 0 at step 0, marked in the first plane
pub crossing_in_the_first_plane : (before after : List ℕ) → Left 0 (Cross 0 1 0) before after → get_or after 0 0 ≡ 8 → ⊥
unfolding stand_mark bars_cell any_of
crossing_in_the_first_plane before after m wrong =
    let z : ◌≡◌ {A = ℕ} 8 0 = sym wrong ∙ m.marked.stands 0 0 (omega arith) (omega arith) ∙ ap (λ (bars : List Bar). stand_mark bars 0 0) (of_carrier_0 (Cross 0 1 0)) in
    omega arith

-- the same crossing not marked in the second
pub crossing_left_out : (before after : List ℕ) → Left 0 (Cross 0 1 0) before after → get_or after 4 0 ≡ 0 → ⊥
unfolding digits_of sum_to digit bars_move landing on_grid cell_at only bars_way any_of
crossing_left_out before after m wrong =
    let z : ◌≡◌ {A = ℕ} 0 8 = sym wrong ∙ m.marked.crossings 0 0 (omega arith) (omega arith) ∙ ap (λ (bars : List Bar). digits_of 2 1 bars 0 0) (of_carrier_0 (Cross 0 1 0)) in
    omega arith

-- the second plane not cleared: what stood there is left
pub second_plane_not_cleared : (before after : List ℕ) → Left 0 Free before after → get_or before 4 0 ≡ 8 → get_or after 4 0 ≡ get_or before 4 0 → ⊥
unfolding digits_of sum_to digit bars_move landing on_grid cell_at only bars_way any_of
second_plane_not_cleared before after m old wrong =
    let z : ◌≡◌ {A = ℕ} 8 0 = sym old ∙ sym wrong ∙ m.marked.crossings 0 0 (omega arith) (omega arith) ∙ ap (λ (bars : List Bar). digits_of 2 1 bars 0 0) (of_carrier_0 Free) in
    omega arith

-- a crossing that is said not to be there
pub crossing_not_told : (until : ℕ) → record { crossing = false; until = until } ≡ bearing_of 1 (bound_by 3 three 2 0 (Cross 0 1 0)) → ⊥
unfolding bearing_of any_of crosses bound_by
crossing_not_told until e = not_both {b = true} refl (sym (ap (λ (b : Bearing). b.crossing) e))

-- the last step of a bar, step 1, told for the step after it
pub last_step_told : (crossing : Bool) → record { crossing = crossing; until = 1 } ≡ bearing_of 1 (bound_by 3 three 2 0 Free) → ⊥
unfolding bearing_of quiet_from bears_until
last_step_told crossing e =
    let z : ◌≡◌ {A = ℕ} 1 2 = ap (λ (b : Bearing). b.until) e ∙ ap (quiet_from 1) (of_carrier_0 Free) in
    omega arith

-- the new bar left out of what is told: that of the chain alone, which has no bar for carrier 2
pub new_bar_not_told : (crossing : Bool) → record { crossing = crossing; until = 0 } ≡ bearing_of 1 (bound_by 3 three 2 2 (Stay 0 0 0)) → ⊥
unfolding bearing_of quiet_from bears_until
new_bar_not_told crossing e =
    let z : ◌≡◌ {A = ℕ} 0 1 = ap (λ (b : Bearing). b.until) e ∙ ap (quiet_from 1) (of_carrier_2 (Stay 0 0 0)) in
    omega arith
