-- The layers from step t on are made. Assumes nothing.
use mathlib.Core.Bool.{not}
use lib.Dec.{eqb}
use native.Mathlib.Omega.{arith}
use Prim.Native.Nat.{◌+◌, ◌-◌, ◌*◌}
use mathlib.Core.Path.{◌≡◌, refl, subst}
use Rattle.layers.proofs.LayerLaws.{half_small, half_turned}
use Rattle.layers.proofs.PassLaws.{pass_bounds, next_layer, Passing, passing_begins, passing_more, passing_ends, none_crossing}
use Rattle.layers.proofs.fill_back.Goals as goal

pub loop-t-init : goal.loop-t-init
loop-t-init g c = passing_begins c.args.grid c.args.floor.now (not (eqb g.row.MOVES 0)) c.args.crossing c.args.trip.goal ((c.args.trip.horizon + 1) * (c.args.grid.width * c.args.grid.height)) c.args.last c.lay_arrival.new.layers c.lay_arrival.new.slate c.lay_arrival.ensures.copied c.lay_arrival.ensures.wide c.lay_arrival.ensures.pads

pub overflow_sub-from : goal.overflow_sub-from
overflow_sub-from g c = omega (arith, half_small c.loop-t.from c.loop-t.invariant.half)

pub rest_end-requires-clause-sizes_fit : goal.rest_end-requires-clause-sizes_fit
rest_end-requires-clause-sizes_fit g c = let b = pass_bounds c.args.grid c.args.trip c.args.last c.args.layers.now c.requires.0 (c.loop-t.t - 1) (omega (arith, c.loop-t.invariant.within)) in (c.requires.0.inside, omega (arith, c.loop-t-test.true, c.loop-t.invariant.within, c.requires.0.within, c.requires.0.late), omega (arith, b.layer, c.requires.0.room, c.lay_marks-in-loop-t.ensures.long, c.fill_cells.ensures.layer.long, c.loop-t.invariant.long, c.lay_arrival.ensures.layer.long, c.lay_marks.ensures.long), half_turned c.loop-t.from c.loop-t.invariant.half)

pub loop-t-preserved : goal.loop-t-preserved
loop-t-preserved g c = let b = pass_bounds c.args.grid c.args.trip c.args.last c.args.layers.now c.requires.0 c.args.last (omega arith) in
    let e : c.loop-t.t ≡ c.loop-t.t - 1 + 1 = omega (arith, c.loop-t-test.true) in
    passing_more c.args.grid c.args.floor.now (not (eqb g.row.MOVES 0)) c.args.crossing c.args.trip.goal ((c.args.trip.horizon + 1) * (c.args.grid.width * c.args.grid.height)) c.args.last c.lay_arrival.new.layers
    (omega (arith, b.layer))
    (none_crossing c.args.grid c.args.floor.now (not (eqb g.row.MOVES 0)) c.args.crossing c.args.trip.goal ((c.args.trip.horizon + 1) * (c.args.grid.width * c.args.grid.height)) c.args.last c.args.layers.now c.lay_marks.new.layers c.lay_arrival.new.layers c.lay_arrival.new.slate c.arrives-level.result c.elsewhere-rest.result c.lay_marks.ensures c.arrives-level.ensures c.elsewhere-rest.ensures c.lay_arrival.ensures c.args.trip.horizon refl c.requires.0.within c.requires.1)
    c.requires.0.some c.requires.0.wide c.requires.0.high
    c.loop-t.layers c.loop-t.shuts c.loop-t.slate c.loop-t.from (c.loop-t.t - 1)
    (subst (Passing c.args.grid c.args.floor.now (not (eqb g.row.MOVES 0)) c.args.crossing c.args.trip.goal ((c.args.trip.horizon + 1) * (c.args.grid.width * c.args.grid.height)) c.args.last c.lay_arrival.new.layers c.loop-t.layers c.loop-t.shuts c.loop-t.slate c.loop-t.from) e c.loop-t.invariant)
    c.lay_shuts.new.shuts c.lay_marks-in-loop-t.new.layers c.fill_cells.new.slate c.fill_cells.new.layers c.rest_end.new.slate c.rest_end.new.layers
    c.lay_shuts.ensures c.lay_marks-in-loop-t.ensures c.fill_cells.ensures c.rest_end.ensures

pub returns : goal.returns
returns g c = let b = pass_bounds c.args.grid c.args.trip c.args.last c.args.layers.now c.requires.0 c.args.last (omega arith) in passing_ends c.args.grid c.args.floor.now (not (eqb g.row.MOVES 0)) c.args.crossing c.args.trip.goal ((c.args.trip.horizon + 1) * (c.args.grid.width * c.args.grid.height)) c.args.last c.args.layers.now c.lay_marks.new.layers c.lay_arrival.new.layers c.lay_arrival.new.slate c.arrives-level.result c.elsewhere-rest.result c.lay_marks.ensures c.arrives-level.ensures c.elsewhere-rest.ensures c.lay_arrival.ensures c.requires.0.inside (omega (arith, b.layer, next_layer c.args.last (c.args.grid.width * c.args.grid.height))) c.loop-t.layers c.loop-t.shuts c.loop-t.slate c.loop-t.from c.loop-t.t c.loop-t.invariant (omega (arith, c.loop-t-test.false))

pub fill_cells-requires : goal.fill_cells-requires
fill_cells-requires g c = let b = pass_bounds c.args.grid c.args.trip c.args.last c.args.layers.now c.requires.0 (c.loop-t.t - 1) (omega (arith, c.loop-t.invariant.within)) in (omega (arith, b.layer, c.requires.0.room, c.lay_marks-in-loop-t.ensures.long, c.loop-t.invariant.long, c.lay_arrival.ensures.layer.long, c.lay_marks.ensures.long), c.loop-t.invariant.half)
