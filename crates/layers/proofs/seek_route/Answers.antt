-- What is found by `soon` is the best route; otherwise it is sought as far as the horizon. Assumes nothing.
use native.Mathlib.Omega.{arith}
use Prim.Native.Nat.{◌*◌, ◌≤◌}
use mathlib.Core.Path.{sym, ◌∙◌}
use Rattle.hall.proofs.HallCode.{area_small}
use Rattle.marks.specs.Marks.{bound_by}
use Rattle.marks.proofs.More.{still_layered}
use Rattle.shuts.specs.Post.{lent_hall}
use Rattle.layers.proofs.Soon.{bears_small, soon_within, soon_bears, soon_rests, fillable}
use Rattle.layers.proofs.SeekLaws.{bearing_crosses, no_crossing, sought_after, sought_soon, sought_late}
use Rattle.layers.proofs.seek_route.Goals as goal

pub soon_by-soon-requires : goal.soon_by-soon-requires
soon_by-soon-requires c =
    let a = c.args in
    let pre = c.requires in
    let small : a.grid.width * a.grid.height ≤ 256 = area_small pre.grid_and_layers.0.wide pre.grid_and_layers.0.high in
    (pre.grid_and_layers.0.some, omega (arith, pre.trip_and_records.0), omega (arith, pre.trip_and_records.1), bears_small a.trip.horizon (bound_by a.bound.capacity a.columns.now a.bound.node a.bound.carrier a.bound.bar) c.mark_all-bearing.result pre.grid_and_layers.1.late c.mark_all-bearing.ensures.1)

pub seek_by-end-requires : goal.seek_by-end-requires
seek_by-end-requires c =
    let a = c.args in
    let pre = c.requires in
    let mark = c.mark_all-bearing in
    let bars = bound_by a.bound.capacity a.columns.now a.bound.node a.bound.carrier a.bound.bar in
    (fillable a.grid a.trip c.soon_by-soon.result a.layers.now mark.new.layers pre.grid_and_layers.1 mark.ensures.0.kept.long (rw c.soon_by-soon.ensures (soon_within a.grid.width a.trip.start a.trip.goal a.trip.horizon mark.result.until)) pre.trip_and_records.1, no_crossing a.grid.width a.grid.height bars a.trip.horizon mark.result.crossing mark.new.layers (bearing_crosses a.trip.horizon bars mark.result mark.ensures.1) mark.ensures.0.marked, pre.trip_and_records.0)

pub returns-then-is_answer : goal.returns-then-is_answer
returns-then-is_answer c =
    let a = c.args in
    let pre = c.requires in
    let mark = c.mark_all-bearing in
    let soon = c.soon_by-soon in
    let seek = c.seek_by-end in
    let hall = lent_hall a.grid a.hall.now in
    let bars = bound_by a.bound.capacity a.columns.now a.bound.node a.bound.carrier a.bound.bar in
    let by = soon_bears a.grid.width a.trip.start a.trip.goal a.trip.horizon soon.result bars mark.result mark.ensures.1 soon.ensures in
    let first = sought_after hall bars a.trip.start a.trip.goal a.trip.horizon soon.result a.layers.now mark.new.layers seek.new.layers seek.result mark.ensures.0.kept (seek.ensures a.hall.now bars c.lay_floor.ensures.floor mark.ensures.0.marked (soon_rests a.grid.width a.trip.start a.trip.goal a.trip.horizon soon.result bars by)) in
    sought_soon hall bars a.trip.start a.trip.goal a.trip.horizon pre.grid_and_layers.1.late pre.trip_and_records.1 soon.result by a.layers.now seek.new.layers seek.result c.end_told.result first (sym c.is_answer.ensures ∙ c.if-is_answer.true) c.end_told.ensures

pub seek_whole-last-requires : goal.seek_whole-last-requires
seek_whole-last-requires c =
    let a = c.args in
    let pre = c.requires in
    let mark = c.mark_all-bearing in
    let soon = c.soon_by-soon in
    let seek = c.seek_by-end in
    let hall = lent_hall a.grid a.hall.now in
    let bars = bound_by a.bound.capacity a.columns.now a.bound.node a.bound.carrier a.bound.bar in
    let by = soon_bears a.grid.width a.trip.start a.trip.goal a.trip.horizon soon.result bars mark.result mark.ensures.1 soon.ensures in
    let first = sought_after hall bars a.trip.start a.trip.goal a.trip.horizon soon.result a.layers.now mark.new.layers seek.new.layers seek.result mark.ensures.0.kept (seek.ensures a.hall.now bars c.lay_floor.ensures.floor mark.ensures.0.marked (soon_rests a.grid.width a.trip.start a.trip.goal a.trip.horizon soon.result bars by)) in
    record { layers_and_records = (still_layered a.grid.width a.grid.height a.trip.horizon a.layers.now seek.new.layers first.kept.long pre.grid_and_layers.1, pre.trip_and_records.2); ends_inside = (pre.trip_and_records.0, pre.trip_and_records.1) }

pub returns : goal.returns
returns c =
    let a = c.args in
    let pre = c.requires in
    let mark = c.mark_all-bearing in
    let soon = c.soon_by-soon in
    let seek = c.seek_by-end in
    let hall = lent_hall a.grid a.hall.now in
    let bars = bound_by a.bound.capacity a.columns.now a.bound.node a.bound.carrier a.bound.bar in
    let by = soon_bears a.grid.width a.trip.start a.trip.goal a.trip.horizon soon.result bars mark.result mark.ensures.1 soon.ensures in
    let first = sought_after hall bars a.trip.start a.trip.goal a.trip.horizon soon.result a.layers.now mark.new.layers seek.new.layers seek.result mark.ensures.0.kept (seek.ensures a.hall.now bars c.lay_floor.ensures.floor mark.ensures.0.marked (soon_rests a.grid.width a.trip.start a.trip.goal a.trip.horizon soon.result bars by)) in
    let again = c.seek_whole-last in
    sought_late hall bars a.trip.start a.trip.goal a.trip.horizon pre.grid_and_layers.1.late pre.trip_and_records.1 soon.result by a.layers.now seek.new.layers a.layers.now again.new.layers seek.result again.result c.end_told-2.result first (sym c.is_answer.ensures ∙ c.if-is_answer.false) (sought_after hall bars a.trip.start a.trip.goal a.trip.horizon a.trip.horizon a.layers.now seek.new.layers again.new.layers again.result first.kept (again.ensures a.hall.now c.lay_floor.ensures.floor)) c.end_told-2.ensures
