-- `writer::write_route` meets its contract: what is written, then the way that is read from here, is the route. Assumes nothing.
use native.Mathlib.Omega.{arith}
use mathlib.Core.Path.{sym, ◌∙◌}
use Rattle.std.proofs.Common.{rules}
use Rattle.writer.proofs.WriteLaws.{write_turn, write_stays, write_ends}
use Rattle.writer.proofs.write_route.Goals as goal

pub returns-then-left-eq0 : goal.returns-then-left-eq0
returns-then-left-eq0 c = write_stays c.args.grid.width c.args.grid.height c.args.trip.horizon c.args.layers.now c.args.trip.start c.loop-t.t c.loop-t.v c.loop-t.stretch c.fill.new.self c.loop-t.invariant (sym c.left.ensures ∙ c.if-left-eq0.true) (search rules)

pub loop-t-preserved : goal.loop-t-preserved
loop-t-preserved c = write_turn c.args.grid.width c.args.grid.height c.args.trip.horizon c.args.layers.now c.args.trip.start c.loop-t.t c.loop-t.v c.step_on-v.result c.loop-t.stretch c.loop-t.invariant c.loop-t-test.true (λ e. c.if-left-eq0.false (c.left.ensures ∙ e)) c.step_on-v.ensures

pub returns : goal.returns
returns c = write_ends c.args.grid.width c.args.grid.height c.args.trip.horizon c.args.layers.now c.args.trip.start c.loop-t.t c.loop-t.v c.loop-t.stretch c.loop-t.invariant (omega (arith, c.loop-t.invariant.within, c.loop-t-test.false))
