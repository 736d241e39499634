-- By the end, one law for each. A clear node has its stretch in the plans. Assumes nothing.
use Prim.Native.Nat.{◌+◌, ◌*◌}
use native.Mathlib.Omega.{arith}
use mathlib.Core.Path.{refl}
use Rattle.planner.proofs.Cells.{stretch_inside}
use Rattle.planner.proofs.Written.{end_placed, told_spent, told_full, told_clear}
use Rattle.planner.proofs.tell.Goals as goal

pub stretch_of-size-requires : goal.stretch_of-size-requires
stretch_of-size-requires c =
    let a = c.args in
    let pre = c.requires in
    let p = (end_placed a.task a.plans.now a.end c.in-Clear.node c.in-Clear.made c.in-Clear.is pre.placed) in
    (p.count_most, p.horizon_most)

pub overflow_mul-node : goal.overflow_mul-node
overflow_mul-node c =
    let a = c.args in
    let pre = c.requires in
    let stretch-of = c.stretch_of-size in
    omega (arith, stretch_inside a.task a.plans.now c.in-Clear.node (end_placed a.task a.plans.now a.end c.in-Clear.node c.in-Clear.made c.in-Clear.is pre.placed) stretch-of.result stretch-of.ensures)

pub copy_out-requires : goal.copy_out-requires
copy_out-requires c =
    let a = c.args in
    let pre = c.requires in
    let stretch-of = c.stretch_of-size in
    (stretch_inside a.task a.plans.now c.in-Clear.node (end_placed a.task a.plans.now a.end c.in-Clear.node c.in-Clear.made c.in-Clear.is pre.placed) stretch-of.result stretch-of.ensures, omega (arith, stretch-of.ensures, pre.room))

pub sum_at-sum-requires : goal.sum_at-sum-requires
sum_at-sum-requires c =
    let a = c.args in
    let pre = c.requires in
    let p = (end_placed a.task a.plans.now a.end c.in-Clear.node c.in-Clear.made c.in-Clear.is pre.placed) in
    (p.count_most, p.horizon_most, stretch_inside a.task a.plans.now c.in-Clear.node p (a.task.job.team.count * (a.task.job.horizon + 1)) refl)

pub returns-in-Spent : goal.returns-in-Spent
returns-in-Spent c =
    let a = c.args in
    told_spent a.task a.plans.now a.output.now a.end c.in-Spent.made c.in-Spent.is

pub returns-in-Full : goal.returns-in-Full
returns-in-Full c =
    let a = c.args in
    told_full a.task a.plans.now a.output.now a.end c.in-Full.is

pub returns-in-Clear : goal.returns-in-Clear
returns-in-Clear c =
    let a = c.args in
    let pre = c.requires in
    let copy-out = c.copy_out in
    let stretch-of = c.stretch_of-size in
    let sum-at = c.sum_at-sum in
    told_clear a.task a.plans.now a.output.now copy-out.new.output a.end c.in-Clear.node c.in-Clear.made stretch-of.result sum-at.result c.in-Clear.is
    (end_placed a.task a.plans.now a.end c.in-Clear.node c.in-Clear.made c.in-Clear.is pre.placed)
    stretch-of.ensures sum-at.ensures copy-out.ensures
