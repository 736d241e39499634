-- The two marks of a cell at a step under one bar more: the first is 255 where the bar forbids the cell, the second has one binary digit
-- more where it forbids a move, and otherwise they are the same. A move has at most one landing, so each law on moves is one on that
-- landing. Assumes nothing.
use Prim.Native.Nat.{ℕ, ◌/◌, ◌%◌, ◌≤◌, ◌<◌}
use native.Mathlib.Decide.{ℕ_discrete}
use mathlib.Core.Path.{◌≡◌, refl, ◌∙◌}
use mathlib.Core.Bool.{Bool, true, false, ◌&&◌, ◌||◌, and-false, and-or_distrib_left}
use mathlib.Core.List.{List, [], ◌∷◌}
use borrow.Author.Tests.{eq-eqb, le-leb}
use lib.Dec.{eqb, leb, eqb→eq, leb→le}
use Rattle.lists.specs.Lists.{any_of, sum_to}
use Rattle.lists.proofs.Passing.{any_here, any_later, any_only, any_cons}
use Rattle.lists.proofs.Tests.{is_false, not_both, and_both, eqb_turned}
use Rattle.hall.specs.Moves.{row_after, col_after, on_grid, cell_at, landing, move_count}
use Rattle.routes.specs.Bars.{bars_cell, bars_way}
use Rattle.routes.specs.declared.Bar.{Bar}
use Rattle.routes.specs.declared.Bar.TheVariants.{Free, Stay, Cross}
use Rattle.marks.specs.Marks.{stand_mark, bars_move, digit, digits_of, crosses}
use Rattle.marks.specs.Post.{leads, with_digit}
use Rattle.marks.proofs.Digits.{digits_set, digits_kept}

-- ---- where a bar forbids nothing

pub not_stayed : (t v w a b : ℕ) → (v ≡ w → a ≤ t → t ≤ b → ⊥) → bars_cell t v (Stay w a b) ≡ false
unfolding bars_cell
not_stayed t v w a b n =
    is_false (λ p.
    let (e, q) = and_both (eqb v w) (leb a t && leb t b) p in
    let (l, k) = and_both (leb a t) (leb t b) q in
    n (eqb→eq v w e) (leb→le a t l) (leb→le t b k))

pub not_crossed : (t v u w s y : ℕ) → (t ≡ s → v ≡ u → ⊥) → bars_way t v y (Cross u w s) ≡ false
unfolding bars_way
not_crossed t v u w s y n =
    is_false (λ p.
    let (e, q) = and_both (eqb t s) (eqb v u && eqb y w) p in
    let (f, g) = and_both (eqb v u) (eqb y w) q in
    n (eqb→eq t s e) (eqb→eq v u f))

-- a bar that forbids no crossing bars no way
no_way : (b : Bar) (t v w : ℕ) → crosses b ≡ false → bars_way t v w b ≡ false
unfolding crosses bars_way
no_way Free t v w e = refl
no_way (Stay u a b) t v w e = refl
no_way (Cross u x s) t v w e = absurd (not_both {b = true} refl e)

-- ---- the first mark

pub stand_none : (t v : ℕ) → stand_mark [] t v ≡ 0
unfolding stand_mark any_of
stand_none t v = refl

-- the bar forbids the cell
stand_barred : (b : Bar) (bars : List Bar) (t v : ℕ) → bars_cell t v b ≡ true → stand_mark (b ∷ bars) t v ≡ 255
unfolding stand_mark
stand_barred b bars t v e = rw (any_here (bars_cell t v) b bars e, stand_mark)

-- the bar does not
pub stand_same : (b : Bar) (bars : List Bar) (t v : ℕ) → bars_cell t v b ≡ false → stand_mark (b ∷ bars) t v ≡ stand_mark bars t v
unfolding stand_mark
stand_same b bars t v e = rw (any_later (bars_cell t v) b bars e, stand_mark)

-- bars that forbid alike, as the same bars in another order
pub stand_alike : (some others : List Bar) (t v : ℕ) → ((p : Bar → Bool) → any_of p some ≡ any_of p others) → stand_mark some t v ≡ stand_mark others t v
unfolding stand_mark
stand_alike some others t v e = rw (e (bars_cell t v), stand_mark)

pub stand_stayed : (bars : List Bar) (t v w a b : ℕ) → v ≡ w → a ≤ t → t ≤ b → stand_mark (Stay w a b ∷ bars) t v ≡ 255
stand_stayed bars t v w a b e l k = stand_barred (Stay w a b) bars t v (unfold bars_cell in rw (eq-eqb v w e, le-leb a t l, le-leb t b k))

pub stand_not_stayed : (bars : List Bar) (t v w a b : ℕ) → (v ≡ w → a ≤ t → t ≤ b → ⊥) → stand_mark (Stay w a b ∷ bars) t v ≡ stand_mark bars t v
stand_not_stayed bars t v w a b n = stand_same (Stay w a b) bars t v (not_stayed t v w a b n)

pub stand_crossed : (bars : List Bar) (t v u w s : ℕ) → stand_mark (Cross u w s ∷ bars) t v ≡ stand_mark bars t v
stand_crossed bars t v u w s = stand_same (Cross u w s) bars t v (unfold bars_cell in refl)

-- ---- the second mark

module _ (width height : ℕ) where
  -- does one bar forbid move m from v at step t?
  unfoldable forbids_move : Bar → ℕ → ℕ → ℕ → Bool
  forbids_move b t v m = any_of (λ w. bars_way t v w b) (landing width height (v / width) (v % width) m)

  move_more : (b : Bar) (bars : List Bar) (t v m : ℕ) → bars_move width height (b ∷ bars) t v m ≡ (forbids_move b t v m || bars_move width height bars t v m)
  unfolding bars_move forbids_move landing
  move_more b bars t v m =
      let g = on_grid width height (row_after (v / width) m) (col_after (v % width) m) in
      let w = cell_at width (row_after (v / width) m) (col_after (v % width) m) in
      rw (any_only (λ w. any_of (bars_way t v w) (b ∷ bars)) g w, any_only (λ w. bars_way t v w b) g w, any_only (λ w. any_of (bars_way t v w) bars) g w, any_cons (bars_way t v w) b bars)
      (and-or_distrib_left g (bars_way t v w b) (any_of (bars_way t v w) bars))

  no_move : (b : Bar) (t v m : ℕ) → ((w : ℕ) → bars_way t v w b ≡ false) → forbids_move b t v m ≡ false
  unfolding forbids_move landing
  no_move b t v m h =
      let g = on_grid width height (row_after (v / width) m) (col_after (v % width) m) in
      let w = cell_at width (row_after (v / width) m) (col_after (v % width) m) in
      any_only (λ w. bars_way t v w b) g w ∙ (rw (h w) (and-false g))

  none_moves : (t v m : ℕ) → bars_move width height [] t v m ≡ false
  unfolding bars_move landing any_of
  none_moves t v m =
      let g = on_grid width height (row_after (v / width) m) (col_after (v % width) m) in
      any_only (λ w. false) g (cell_at width (row_after (v / width) m) (col_after (v % width) m)) ∙ and-false g

  pub digits_none : (t v : ℕ) → digits_of width height [] t v ≡ 0
  unfolding digits_of sum_to digit
  digits_none t v = digits_kept (λ m. false) (bars_move width height [] t v) (λ m h. none_moves t v m)

  -- the bar forbids no move here
  digits_same : (b : Bar) (bars : List Bar) (t v : ℕ) → ((m : ℕ) → m < move_count → forbids_move b t v m ≡ false) → digits_of width height (b ∷ bars) t v ≡ digits_of width height bars t v
  unfolding digits_of
  digits_same b bars t v f =
      digits_kept (bars_move width height bars t v) (bars_move width height (b ∷ bars) t v) (λ m h. move_more b bars t v m ∙ (rw (f m h)))

  -- the bar forbids one move
  digits_move : (b : Bar) (bars : List Bar) (t v r : ℕ) → r < move_count → forbids_move b t v r ≡ true → ((m : ℕ) → m < move_count → (m ≡ r → ⊥) → forbids_move b t v m ≡ false) → digits_of width height (b ∷ bars) t v ≡ with_digit (digits_of width height bars t v) r
  unfolding digits_of
  digits_move b bars t v r h f g =
      digits_set (bars_move width height bars t v) (bars_move width height (b ∷ bars) t v) r h
      (record { there = move_more b bars t v r ∙ (rw f); elsewhere = λ m k n. move_more b bars t v m ∙ (rw (g m k n)) })

  move_alike : (some others : List Bar) (t v m : ℕ) → ((p : Bar → Bool) → any_of p some ≡ any_of p others) → bars_move width height some t v m ≡ bars_move width height others t v m
  unfolding bars_move landing
  move_alike some others t v m e =
      let g = on_grid width height (row_after (v / width) m) (col_after (v % width) m) in
      let w = cell_at width (row_after (v / width) m) (col_after (v % width) m) in
      rw (any_only (λ w. any_of (bars_way t v w) some) g w, any_only (λ w. any_of (bars_way t v w) others) g w, e (bars_way t v w))

  -- bars that forbid alike
  pub digits_alike : (some others : List Bar) (t v : ℕ) → ((p : Bar → Bool) → any_of p some ≡ any_of p others) → digits_of width height some t v ≡ digits_of width height others t v
  unfolding digits_of
  digits_alike some others t v e =
      digits_kept (bars_move width height others t v) (bars_move width height some t v) (λ m h. move_alike some others t v m e)

  -- the bar forbids no crossing
  pub digits_not_crossing : (b : Bar) (bars : List Bar) (t v : ℕ) → crosses b ≡ false → digits_of width height (b ∷ bars) t v ≡ digits_of width height bars t v
  digits_not_crossing b bars t v e = digits_same b bars t v (λ m h. no_move b t v m (λ w. no_way b t v w e))

  cross_here : (u w s m : ℕ) → forbids_move (Cross u w s) s u m ≡ leads width height u w m
  unfolding forbids_move landing bars_way
  cross_here u w s m =
      let g = on_grid width height (row_after (u / width) m) (col_after (u % width) m) in
      let x = cell_at width (row_after (u / width) m) (col_after (u % width) m) in
      rw (any_only (λ y. eqb s s && (eqb u u && eqb y w)) g x, any_only (eqb w) g x, eq-eqb s s refl, eq-eqb u u refl, eqb_turned x w)

  pub digits_crossed : (bars : List Bar) (u w s r : ℕ) → r < move_count → leads width height u w r ≡ true → ((m : ℕ) → m < move_count → (m ≡ r → ⊥) → leads width height u w m ≡ false) → digits_of width height (Cross u w s ∷ bars) s u ≡ with_digit (digits_of width height bars s u) r
  digits_crossed bars u w s r h f g = digits_move (Cross u w s) bars s u r h (cross_here u w s r ∙ f) (λ m k n. cross_here u w s m ∙ g m k n)

  pub digits_not_crossed : (bars : List Bar) (t v u w s : ℕ) → (t ≡ s → v ≡ u → ⊥) → digits_of width height (Cross u w s ∷ bars) t v ≡ digits_of width height bars t v
  digits_not_crossed bars t v u w s n = digits_same (Cross u w s) bars t v (λ m h. no_move (Cross u w s) t v m (λ y. not_crossed t v u w s y n))

  -- no move leads there
  pub digits_far : (bars : List Bar) (t v u w s : ℕ) → ((m : ℕ) → m < move_count → leads width height u w m ≡ false) → digits_of width height (Cross u w s ∷ bars) t v ≡ digits_of width height bars t v
  digits_far bars t v u w s f =
      elim (ℕ_discrete t s) [
        | no n ↦ digits_not_crossed bars t v u w s (λ e k. n e)
        | yes e ↦
            elim (ℕ_discrete v u) [
              | no n ↦ digits_not_crossed bars t v u w s (λ e k. n k)
              | yes k ↦ rw (e, k) (digits_same (Cross u w s) bars s u (λ m h. cross_here u w s m ∙ f m h))
            ]
      ]
