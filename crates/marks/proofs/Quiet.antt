-- From the step on from which bars are quiet, up to the horizon, none of them forbids a cell or a way: a bar whose last step is cut at
-- the horizon and passed forbids nothing there. The bar that forbids nothing changes nothing. By induction on the bars. Assumes nothing.
use Prim.Native.Nat.{ℕ, ◌+◌, ◌≤◌}
use native.Mathlib.Omega.{arith}
use mathlib.Core.Path.{◌≡◌, refl, ◌∙◌}
use mathlib.Core.Bool.{false}
use mathlib.Core.List.{List, [], ◌∷◌}
use Rattle.lists.specs.Lists.{any_of}
use Rattle.lists.proofs.Passing.{any_cons}
use Rattle.lists.proofs.Tests.{both_fail}
use Rattle.routes.specs.Bars.{bars_cell, bars_way}
use Rattle.routes.specs.declared.Bar.{Bar}
use Rattle.routes.specs.declared.Bar.TheVariants.{Free, Stay, Cross}
use Rattle.marks.specs.Marks.{bears_until, quiet_from}
use Rattle.marks.proofs.Marking.{not_stayed, not_crossed}

module _ (h : ℕ) where
  -- ---- one bar

  bar_cell : (b : Bar) (t v : ℕ) → bears_until h b ≤ t → t ≤ h → bars_cell t v b ≡ false
  unfolding bears_until
  bar_cell Free t v q l = unfold bars_cell in refl
  bar_cell (Stay w a b) t v q l = not_stayed t v w a b (λ e f g. omega arith)
  bar_cell (Cross u w s) t v q l = unfold bars_cell in refl

  bar_way : (b : Bar) (t u v : ℕ) → bears_until h b ≤ t → t ≤ h → bars_way t u v b ≡ false
  unfolding bears_until
  bar_way Free t u v q l = unfold bars_way in refl
  bar_way (Stay w a b) t u v q l = unfold bars_way in refl
  bar_way (Cross x y s) t u v q l = not_crossed t u x y s v (λ e f. omega arith)

  -- ---- all of them

  pub quiet_cell : (bars : List Bar) (t v : ℕ) → quiet_from h bars ≤ t → t ≤ h → any_of (bars_cell t v) bars ≡ false
  unfolding quiet_from
  quiet_cell [] t v q l = unfold any_of in refl
  quiet_cell (b ∷ bars) t v q l =
      any_cons (bars_cell t v) b bars ∙ both_fail (bars_cell t v b) (any_of (bars_cell t v) bars) (bar_cell b t v (omega arith) l) (quiet_cell bars t v (omega arith) l)

  pub quiet_way : (bars : List Bar) (t u v : ℕ) → quiet_from h bars ≤ t → t ≤ h → any_of (bars_way t u v) bars ≡ false
  unfolding quiet_from
  quiet_way [] t u v q l = unfold any_of in refl
  quiet_way (b ∷ bars) t u v q l =
      any_cons (bars_way t u v) b bars ∙ both_fail (bars_way t u v b) (any_of (bars_way t u v) bars) (bar_way b t u v (omega arith) l) (quiet_way bars t u v (omega arith) l)

  -- at the latest after the horizon
  bears_small : (b : Bar) → bears_until h b ≤ h + 1
  unfolding bears_until
  bears_small Free = omega arith
  bears_small (Stay v a b) = omega arith
  bears_small (Cross u v t) = omega arith

  pub quiet_small : (bars : List Bar) → quiet_from h bars ≤ h + 1
  unfolding quiet_from
  quiet_small [] = omega arith
  quiet_small (b ∷ bars) = omega (arith, bears_small b, quiet_small bars)

  -- the bar that forbids nothing, in front
  pub quiet_free : (bars : List Bar) → quiet_from h (Free ∷ bars) ≡ quiet_from h bars
  unfolding quiet_from bears_until
  quiet_free bars = omega arith
