-- The bars that bind a carrier go on at a node's parent; where the parent's own is for another carrier, they go on where they go on
-- above the parent. Assumes nothing.
use Prim.Native.Nat.{ℕ, ◌<◌}
use native.Mathlib.Omega.{arith}
use mathlib.Core.Path.{◌≡◌, ap, ◌∙◌}
use mathlib.Core.List.{List, ◌++◌}
use mathlib.Core.Logic.{◌⊎◌}
use Rattle.routes.specs.Bars.{bars_for}
use Rattle.records.specs.Columns.{entry, parent_at, own_bars, chain_of, Falls}
use Rattle.records.proofs.Own.{other_binds_not, chain_binds}
use Rattle.marks.specs.Post.{BoundAbove}

module _ (capacity : ℕ) (columns : List ℕ) (x : ℕ) where
  -- the numbers fall above an ancestor too
  pub falls_above : (above : ℕ) → above < x → Falls capacity columns x → Falls capacity columns above
  falls_above above l d = record { room = d.room; small = d.small; inside = omega (arith, d.inside); down = λ y k m. d.down y k (omega arith) }

  module _ (carrier p : ℕ) (d : Falls capacity columns x) (n : 0 < x) (e : p ≡ parent_at capacity columns x) where
    parent_goes : (p < x) × (bars_for carrier (chain_of capacity columns x) ≡ bars_for carrier (own_bars capacity columns x) ++ bars_for carrier (chain_of capacity columns p))
    parent_goes =
        let l : parent_at capacity columns x < x = d.down x n (omega arith) in
        rw e (l, chain_binds capacity columns x carrier l)

    pub parent_bound : (p ≡ 0) ⊎ (entry capacity columns 2 p ≡ carrier) → BoundAbove capacity columns x carrier p
    parent_bound stops = record { less = parent_goes.0; goes_on = parent_goes.1; stops = stops }

    pub passed_bound : (above : ℕ) → (entry capacity columns 2 p ≡ carrier → ⊥) → BoundAbove capacity columns p carrier above → BoundAbove capacity columns x carrier above
    passed_bound above other b =
        record {
          less = omega (arith, parent_goes.0, b.less);
          goes_on = parent_goes.1 ∙ ap (λ l. bars_for carrier (own_bars capacity columns x) ++ l) (b.goes_on ∙ (rw (other_binds_not capacity columns p carrier other)));
          stops = b.stops;
        }
