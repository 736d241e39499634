-- `marks::bound_above` meets its contract: the bars above a node go on at its parent, and where the parent's bar is for another carrier,
-- as they go on above the parent, whose number is smaller. Assumes nothing.
use mathlib.Core.Path.{sym, ◌∙◌}
use mathlib.Core.Logic.{inl, inr}
use Rattle.marks.proofs.Above.{parent_bound, passed_bound}
use Rattle.marks.proofs.+bound_above.Goals as goal

pub returns-then-parent-eq0 : goal.returns-then-parent-eq0
returns-then-parent-eq0 t c =
    let a = c.args in
    let pre = c.requires in
    let parent = c.entry_at-parent in
    parent_bound a.capacity a.columns.now a.node a.carrier parent.result pre.0 pre.1 parent.ensures (inl c.if-parent-eq0.true)

pub returns-then-entry_at-carrier : goal.returns-then-entry_at-carrier
returns-then-entry_at-carrier t c =
    let a = c.args in
    let pre = c.requires in
    let parent = c.entry_at-parent in
    parent_bound a.capacity a.columns.now a.node a.carrier parent.result pre.0 pre.1 parent.ensures (inr (sym c.entry_at.ensures ∙ c.if-entry_at-carrier.true))

pub returns : goal.returns
returns t c =
    let a = c.args in
    let pre = c.requires in
    let parent = c.entry_at-parent in
    passed_bound a.capacity a.columns.now a.node a.carrier parent.result pre.0 pre.1 parent.ensures c.bound_above.result (λ e. c.if-entry_at-carrier.false (c.entry_at.ensures ∙ e)) c.bound_above.ensures
