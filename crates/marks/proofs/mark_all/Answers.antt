-- `marks::mark_all` meets its contract: cleared layers are marked for no bars, then the chain and the new bar are marked. Assumes nothing.
use Rattle.lent.specs.Lent.{zeroed}
use Rattle.marks.proofs.More.{all_told}
use Rattle.marks.proofs.mark_all.Goals as goal

pub returns : goal.returns
unfolding zeroed
returns c =
    let a = c.args in
    let bound = a.bound in
    let clear = c.clear in
    let mark-up = c.mark_up-above in
    let mark-bar = c.mark_bar-new in
    all_told a.grid.width a.grid.height a.h bound.capacity a.columns.now bound.node bound.carrier bound.bar a.layers.now clear.new.items mark-up.new.layers mark-bar.new.layers mark-up.result mark-bar.result c.together.result c.requires.0 (rw c.size.ensures at clear.ensures) mark-up.ensures mark-bar.ensures c.together.ensures
