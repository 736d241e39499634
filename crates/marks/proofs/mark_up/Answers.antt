-- `marks::mark_up` meets its contract: what is left to mark is the chain of the record at hand. Its own bar is marked, and the chain goes
-- on at the next ancestor that binds, whose number is smaller; the root's own bar is the last. Assumes nothing.
use mathlib.Core.Path.{refl, ◌∙◌}
use Rattle.routes.specs.Bars.{bars_for}
use Rattle.records.specs.Columns.{chain_of}
use Rattle.marks.proofs.Bearings.{none_told}
use Rattle.marks.proofs.Above.{falls_above}
use Rattle.marks.proofs.More.{all_left, own_then, root_last}
use Rattle.marks.proofs.mark_up.Goals as goal

pub loop-at-init : goal.loop-at-init
loop-at-init c =
    let a = c.args in
    rw (none_told c.default-bearing.result c.default-bearing.ensures)
    (c.requires.1, refl, all_left a.grid.width a.grid.height a.h (bars_for a.bound.carrier (chain_of a.bound.capacity a.columns.now a.bound.node)) a.layers.now)

pub loop-at-preserved : goal.loop-at-preserved
loop-at-preserved c =
    let a = c.args in
    let l = c.loop-at in
    let own = c.mark_own-own in
    let bound = c.bound_above-at in
    let together = c.together-bearing in
    (falls_above a.bound.capacity a.columns.now l.at bound.result bound.ensures.less l.invariant.0, own.ensures.0.kept.long ∙ l.invariant.1, own_then a.grid.width a.grid.height a.h a.bound.capacity a.columns.now l.at a.bound.carrier (bars_for a.bound.carrier (chain_of a.bound.capacity a.columns.now a.bound.node)) bound.result a.layers.now l.layers own.new.layers l.bearing own.result together.result l.invariant.2 own.ensures bound.ensures together.ensures)

pub returns : goal.returns
returns c =
    let a = c.args in
    let l = c.loop-at in
    let own = c.mark_own-root in
    let together = c.together in
    root_last a.grid.width a.grid.height a.h a.bound.capacity a.columns.now l.at a.bound.carrier (bars_for a.bound.carrier (chain_of a.bound.capacity a.columns.now a.bound.node)) a.layers.now l.layers own.new.layers l.bearing own.result together.result l.invariant.2 c.loop-at-test.false own.ensures together.ensures
