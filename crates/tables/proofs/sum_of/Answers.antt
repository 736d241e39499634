-- The total so far, one carrier's cost after the other. Assumes nothing.
use Prim.Native.Nat.{◌+◌}
use native.Mathlib.Omega.{arith}
use Rattle.lists.proofs.Parts.{part_next}
use Rattle.tables.proofs.Costs.{costs_none, costs_more, costs_at_most}
use Rattle.tables.proofs.sum_of.Goals as goal

pub loop-i-init : goal.loop-i-init
loop-i-init c = costs_none c.args.h c.args.team.goals c.args.stretch.now

pub overflow_add-total : goal.overflow_add-total
overflow_add-total c = let e = costs_more c.args.h c.args.team.goals c.args.stretch.now c.loop-i.i c.loop-i.total c.route_cost-total.result c.loop-i.invariant c.route_cost-total.ensures in let p = part_next c.loop-i.i c.args.team.count (c.args.h + 1) (omega arith) in omega (arith, costs_at_most (c.loop-i.i + 1) c.args.h c.args.team.goals c.args.stretch.now)

pub loop-i-preserved : goal.loop-i-preserved
loop-i-preserved c = costs_more c.args.h c.args.team.goals c.args.stretch.now c.loop-i.i c.loop-i.total c.route_cost-total.result c.loop-i.invariant c.route_cost-total.ensures
