-- One turn more copies one byte more. Assumes nothing.
use Prim.Native.Nat.{◌+◌, ◌-◌, ◌<◌}
use native.Mathlib.Omega.{arith}
use lib.ListN.{drop, length-drop}
use lib.Seq.{length-take-le}
use Rattle.lent.proofs.Copies.{out_more}
use Rattle.lent.proofs.copy_out.Goals as goal

pub loop-i-preserved : goal.loop-i-preserved
loop-i-preserved c =
    let a = c.args in
    let part = drop a.from a.plans.now in
    let inside : c.loop-i.i < a.n = omega (arith, c.loop-i-test.true, length-take-le (a.from + a.n - a.from) part (omega (arith, length-drop a.from a.plans.now))) in
    out_more a.plans.now a.output.now a.from a.n c.requires.0 c.requires.1 c.loop-i.output c.loop-i.i inside c.loop-i.invariant
