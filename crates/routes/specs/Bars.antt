-- Document 01, 'The search tree', rule 1: bars, what it is to obey them, and which of them bind a carrier.
use Rattle.std.specs.Prelude.{ℕ, ◌+◌, ◌≤◌, ◌<◌, ◌≡◌, Bool, false, not, ◌&&◌, leb, eqb}
use mathlib.Core.List.{List, [], ◌∷◌, ◌++◌, Memᴰ}
use Rattle.lists.specs.Lists.{only, keep, any_of}
use Rattle.hall.specs.Hall.{Hall, is_open}
use Rattle.hall.specs.Moves.{reach}
use Rattle.routes.specs.Route.{cell_of}
use Rattle.routes.specs.declared.Bar.{Bar}
use Rattle.routes.specs.declared.Bar.TheVariants.{Free, Stay, Cross}

-- 'A bar says that a carrier may not be on a cell from step a to step b, or may not go from one cell to another between t
-- and t + 1.' A route of H + 1 cells obeys it:
unfoldable pub ObeysBar : ℕ → List ℕ → Bar → Type 0
ObeysBar h r Free = Unit {0}
ObeysBar h r (Stay v a b) = (t : ℕ) → a ≤ t → t ≤ b → t ≤ h → cell_of r t ≡ v → ⊥
ObeysBar h r (Cross u v t) = t < h → cell_of r t ≡ u → cell_of r (t + 1) ≡ v → ⊥

unfoldable pub Obeys : ℕ → List ℕ → List Bar → Type 0
Obeys h r bars = (b : Bar) → Memᴰ b bars → ObeysBar h r b

-- a bar with the carrier that it binds
pub record Barred : Type 0 where
  pub carrier : ℕ
  pub bar : Bar

-- those that bind carrier i, in their order
unfoldable pub bars_for : ℕ → List Barred → List Bar
bars_for i [] = []
bars_for i (b ∷ bs) = only (eqb b.carrier i) b.bar ++ bars_for i bs

-- does a bar forbid the cell v at step t, or the way from u to v between t and t + 1?
unfoldable pub bars_cell : ℕ → ℕ → Bar → Bool
bars_cell t v Free = false
bars_cell t v (Stay w a b) = eqb v w && (leb a t && leb t b)
bars_cell t v (Cross u w s) = false

unfoldable pub bars_way : ℕ → ℕ → ℕ → Bar → Bool
bars_way t u v Free = false
bars_way t u v (Stay w a b) = false
bars_way t u v (Cross x y s) = eqb t s && (eqb u x && eqb v y)

-- may a carrier stand on v at step t?
unfoldable pub may_stand : Hall → List Bar → ℕ → ℕ → Bool
may_stand hall bars t v = is_open hall v && not (any_of (bars_cell t v) bars)

-- the cells to which it may turn from u at step t, rising
unfoldable pub may_turn : Hall → List Bar → ℕ → ℕ → List ℕ
may_turn hall bars t u = keep (λ v. not (any_of (bars_way t u v) bars)) (reach hall u)
