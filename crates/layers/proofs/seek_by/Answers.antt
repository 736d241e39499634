-- Marked layers, filled twice, tell the best route that ends by `late`. Assumes nothing.
use native.Mathlib.Omega.{arith}
use Prim.Native.Nat.{◌*◌}
use mathlib.Core.Path.{refl}
use lib.ListN.{get_or}
use Rattle.shuts.specs.Post.{lent_hall}
use Rattle.layers.proofs.Soon.{fillable_again}
use Rattle.layers.proofs.SeekLaws.{crossing_kept, sought_none, sought_cost}
use Rattle.layers.proofs.seek_by.Goals as goal

pub returns-then-late-end : goal.returns-then-late-end
returns-then-late-end c =
    let a = c.args in
    let pre = c.requires in
    let fill = c.fill_back in
    let ends = fill.new.layers in
    λ bytes bars floor marked rests. sought_none (lent_hall a.grid bytes) bars a.trip.start a.trip.goal a.trip.horizon a.late a.layers.now ends pre.0.late pre.0.within pre.2 pre.0.inside marked rests (fill.ensures.0 bytes floor) fill.ensures.1 (get_or ends a.trip.start 0) refl c.if-late-end.true

pub fill_back-requires-2 : goal.fill_back-requires-2
fill_back-requires-2 c =
    let a = c.args in
    let pre = c.requires in
    let fill = c.fill_back in
    let ends = fill.new.layers in
    (fillable_again a.grid a.trip a.late (get_or ends a.trip.start 0) a.layers.now ends pre.0 fill.ensures.1.long (omega (arith, c.if-late-end.false)), crossing_kept (a.grid.width * a.grid.height) a.crossing a.late a.trip.horizon a.layers.now ends pre.0.within fill.ensures.1 pre.1)

pub returns : goal.returns
returns c =
    let a = c.args in
    let pre = c.requires in
    let fill = c.fill_back in
    let ends = fill.new.layers in
    let again = c.fill_back-2 in
    λ bytes bars floor marked rests. sought_cost (lent_hall a.grid bytes) bars a.trip.start a.trip.goal a.trip.horizon a.late a.layers.now ends pre.0.late pre.0.within pre.2 pre.0.inside marked rests (fill.ensures.0 bytes floor) fill.ensures.1 (get_or ends a.trip.start 0) refl again.new.layers (omega (arith, c.if-late-end.false)) (again.ensures.0 bytes floor) again.ensures.1
