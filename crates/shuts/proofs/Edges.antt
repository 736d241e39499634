-- Where a move leaves the grid sideways: left from the first column, right from the last, no other move anywhere. A column is every
-- width-th cell from its first one on. Assumes nothing.
use Prim.Native.Nat.{ℕ, ◌+◌, ◌-◌, ◌*◌, ◌/◌, ◌%◌, ◌≤◌}
use native.Mathlib.Nat.{div-add-mod'}
use native.Mathlib.Omega.{arith}
use mathlib.Core.Path.{◌≡◌, refl, sym, ◌∙◌}
use mathlib.Core.Bool.{true, false, or-false}
use lib.Arith.{digits_mod}
use lib.Dec.{eqb}
use borrow.Author.Tests.{eq-eqb, eqb-true, ne_eqb}
use Rattle.shuts.specs.Shuts.{aside}

-- the cells from which move m leaves the grid
pub record Edge (width m first : ℕ) : Type 0 where
  pub out : (k : ℕ) → aside width (first + k * width) m ≡ true
  pub all : (v : ℕ) → aside width v m ≡ true → (k : ℕ) × (v ≡ first + k * width)

pub never_aside : (width v m : ℕ) → (m ≡ 1 → ⊥) → (m ≡ 3 → ⊥) → aside width v m ≡ false
unfolding aside
never_aside width v m l r = simp (ne_eqb m 1 l, ne_eqb m 3 r)

aside_left : (width v : ℕ) → aside width v 1 ≡ eqb (v % width) 0
unfolding aside
aside_left width v = or-false (eqb (v % width) 0)

aside_right : (width v : ℕ) → aside width v 3 ≡ eqb (v % width + 1) width
unfolding aside
aside_right width v = refl

module _ (width : ℕ) (some : 1 ≤ width) where
  pub left_edge : Edge width 1 0
  left_edge =
      record {
        out = λ k.
            let front : 0 + k * width ≡ k * width + 0 = omega arith in
            let col : (0 + k * width) % width ≡ 0 = rw front (digits_mod k {m = width} {r = 0} some) in
            aside_left width (0 + k * width) ∙ eq-eqb ((0 + k * width) % width) 0 col;
        all = λ v e.
            let col = eqb-true (v % width) 0 (sym (aside_left width v) ∙ e) in
            (v / width, omega (arith, col, div-add-mod' v width));
      }

  pub right_edge : Edge width 3 (width - 1)
  right_edge =
      record {
        out = λ k.
            let front : width - 1 + k * width ≡ k * width + (width - 1) = omega arith in
            let col : (width - 1 + k * width) % width ≡ width - 1 = rw front (digits_mod k {m = width} {r = width - 1} (omega arith)) in
            aside_right width (width - 1 + k * width) ∙ eq-eqb ((width - 1 + k * width) % width + 1) width (omega (arith, col));
        all = λ v e.
            let col = eqb-true (v % width + 1) width (sym (aside_right width v) ∙ e) in
            (v / width, omega (arith, col, div-add-mod' v width));
      }
