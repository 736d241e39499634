-- `shuts::lay_floor` meets its contract: the closed cells are told, then the two columns are shut. Assumes nothing.
use mathlib.Core.Path.{sym}
use Rattle.hall.proofs.HallCode.{area_small}
use Rattle.shuts.specs.Post.{lent_hall}
use Rattle.shuts.proofs.FloorLaws.{floor_laid}
use Rattle.shuts.proofs.lay_floor.Goals as goal

pub returns : goal.returns
returns c =
    let a = c.args in
    let p = c.requires in
    let closed = c.shut_closed in
    let left = c.shut_each in
    let right = c.shut_each-2 in
    floor_laid (lent_hall a.grid a.hall.now) a.shuts.now closed.new.shuts left.new.shuts right.new.shuts p.0.some (area_small p.0.wide p.0.high) p.1 (rw (sym p.0.long) closed.ensures) (rw c.size-size.ensures at left.ensures) (rw c.size-size.ensures at right.ensures)
