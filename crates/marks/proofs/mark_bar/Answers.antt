-- `marks::mark_bar` meets its contract, by the bar's cases. Assumes nothing.
use Rattle.marks.proofs.Bearings.{none_told}
use Rattle.marks.proofs.More.{told_free, told_stay, told_cross}
use Rattle.marks.proofs.mark_bar.Goals as goal

pub returns-in-Free : goal.returns-in-Free
returns-in-Free c =
    let a = c.args in
    rw (none_told c.default.result c.default.ensures) (told_free a.grid.width a.grid.height a.h a.bar a.layers.now c.in-Free.is)

pub returns-in-Stay : goal.returns-in-Stay
returns-in-Stay c =
    let a = c.args in
    let mark-stay = c.mark_stay in
    told_stay a.grid.width a.grid.height a.h a.bar c.in-Stay.cell c.in-Stay.first c.in-Stay.last c.after.result a.layers.now mark-stay.new.layers c.in-Stay.is mark-stay.ensures c.after.ensures

pub returns-in-Cross : goal.returns-in-Cross
returns-in-Cross c =
    let a = c.args in
    let mark-cross = c.mark_cross in
    told_cross a.grid.width a.grid.height a.h a.bar c.in-Cross.from c.in-Cross.to c.in-Cross.step c.after-in-Cross.result a.layers.now mark-cross.new.layers c.in-Cross.is mark-cross.ensures c.after-in-Cross.ensures
