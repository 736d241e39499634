-- `marks::mark_own` meets its contract: a record that binds another carrier has nothing to mark, and of one that
-- binds this one its bar is marked. Assumes nothing.
use mathlib.Core.Path.{sym, ◌∙◌}
use Rattle.marks.proofs.Bearings.{none_told}
use Rattle.marks.proofs.More.{own_other, own_marked}
use Rattle.marks.proofs.mark_own.Goals as goal

pub returns-then-whose-bound : goal.returns-then-whose-bound
returns-then-whose-bound c =
    let a = c.args in
    rw (none_told c.default.result c.default.ensures)
    (own_other a.grid.width a.grid.height a.h a.bound.capacity a.columns.now a.bound.node a.bound.carrier a.layers.now (λ e. c.if-whose-bound.true (c.entry_at-whose.ensures ∙ e)))

pub returns : goal.returns
returns c =
    let a = c.args in
    let bar-at = c.bar_at-bar in
    let mark-bar = c.mark_bar in
    own_marked a.grid.width a.grid.height a.h a.bound.capacity a.columns.now a.bound.node a.bound.carrier bar-at.result a.layers.now mark-bar.new.layers mark-bar.result (sym c.entry_at-whose.ensures ∙ c.if-whose-bound.false) bar-at.ensures mark-bar.ensures
