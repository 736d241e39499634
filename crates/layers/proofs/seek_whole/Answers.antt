-- Layers marked anew, and all steps to the horizon. Assumes nothing.
use native.Mathlib.Omega.{arith}
use Rattle.marks.specs.Marks.{bound_by}
use Rattle.shuts.specs.Post.{lent_hall}
use Rattle.layers.proofs.Soon.{fillable, whole_rests}
use Rattle.layers.proofs.SeekLaws.{bearing_crosses, no_crossing, sought_after}
use Rattle.layers.proofs.seek_whole.Goals as goal

pub seek_by-requires : goal.seek_by-requires
seek_by-requires c =
    let a = c.args in
    let pre = c.requires in
    let mark = c.mark_all-bearing in
    let bars = bound_by a.bound.capacity a.columns.now a.bound.node a.bound.carrier a.bound.bar in
    (fillable a.grid a.trip a.trip.horizon a.layers.now mark.new.layers pre.layers_and_records.0 mark.ensures.0.kept.long (omega arith) pre.ends_inside.1, no_crossing a.grid.width a.grid.height bars a.trip.horizon mark.result.crossing mark.new.layers (bearing_crosses a.trip.horizon bars mark.result mark.ensures.1) mark.ensures.0.marked, pre.ends_inside.0)

pub returns : goal.returns
returns c =
    let a = c.args in
    let mark = c.mark_all-bearing in
    let seek = c.seek_by in
    let bars = bound_by a.bound.capacity a.columns.now a.bound.node a.bound.carrier a.bound.bar in
    λ bytes floor. sought_after (lent_hall a.grid bytes) bars a.trip.start a.trip.goal a.trip.horizon a.trip.horizon a.layers.now mark.new.layers seek.new.layers seek.result mark.ensures.0.kept (seek.ensures bytes bars floor mark.ensures.0.marked (whole_rests a.trip.horizon bars))
