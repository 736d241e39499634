-- Each table is cleared as far as its least length. Assumes nothing.
use Prim.Native.Nat.{ℕ, ◌*◌}
use mathlib.Core.Path.{ap, ◌∙◌}
use Rattle.lent.specs.Lent.{zeroed}
use Rattle.planner.proofs.clear_all.Goals as goal

pub returns : goal.returns
unfolding zeroed
returns c =
    let a = c.args in
    record {
      columns_cleared = c.clear.ensures;
      plans_cleared = c.clear-2.ensures ∙ ap (λ (n : ℕ). zeroed (a.task.capacity * n) a.plans.now) c.stretch_of.ensures;
      layers_cleared = c.clear-3.ensures ∙ ap (λ (n : ℕ). zeroed n a.layers.now) c.layers_of.ensures;
    }
