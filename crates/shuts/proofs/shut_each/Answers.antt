-- The loop's invariant: the cells below v are shut. Assumes nothing.
use Prim.Native.Nat.{◌+◌, ◌*◌}
use native.Mathlib.Omega.{arith}
use lib.ListN.{set}
use Rattle.shuts.proofs.Each.{each_more, each_all}
use Rattle.shuts.proofs.shut_each.Goals as goal

pub loop-v-preserved : goal.loop-v-preserved
loop-v-preserved c =
    let a = c.args in
    let l = c.loop-v in
    each_more a.m a.first a.until a.stride a.shuts.now l.v l.shuts l.invariant c.loop-v-test.true (omega arith)

-- after the last cell
pub returns-2 : goal.returns-2
returns-2 c =
    let a = c.args in
    let l = c.loop-v in
    each_all a.m a.first a.until a.stride a.shuts.now (l.v + a.stride) (set l.shuts (a.m * 256 + l.v) 255) (each_more a.m a.first a.until a.stride a.shuts.now l.v l.shuts l.invariant c.loop-v-test.true (omega arith)) (omega arith)
