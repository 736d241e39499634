-- By what became of the first child; the second one is added to what the first left. Assumes nothing.
use native.Mathlib.Omega.{arith}
use Rattle.children.specs.Steps.{job_on, barred_of}
use Rattle.planner.proofs.Tails.{kept_after, ready_after}
use Rattle.planner.proofs.Children.{nothing_changed, two_nothing, two_made, two_full, made_sound, nothing_sound}
use Rattle.planner.proofs.add_two.Goals as goal

pub add_one-requires : goal.add_one-requires
add_one-requires c =
    let a = c.args in
    let pre = c.requires in
    let r = c.add_child-first in
    record { ready = ready_after a.task a.columns.now a.plans.now a.layers.now r.new.columns r.new.plans r.new.layers pre.ready r.ensures.kept; sound = nothing_sound (job_on a.task) a.task.capacity a.node a.made a.columns.now a.plans.now r.new.columns r.new.plans pre.sound (nothing_changed a.task a.node (barred_of a.bars.one) a.made a.columns.now a.plans.now r.new.columns r.new.plans r.result c.in-Nothing.is r.ensures.tables.written); in_range = (pre.in_range, pre.bars_fit.j_inside); bar_set = pre.bars_fit.two_fits }

pub add_one-requires-in-Made : goal.add_one-requires-in-Made
add_one-requires-in-Made c =
    let a = c.args in
    let pre = c.requires in
    let r = c.add_child-first in
    record { ready = ready_after a.task a.columns.now a.plans.now a.layers.now r.new.columns r.new.plans r.new.layers pre.ready r.ensures.kept; sound = made_sound (job_on a.task) a.task.capacity a.node a.made a.columns.now a.plans.now (barred_of a.bars.one) r.new.columns r.new.plans r.result c.in-Made.is r.ensures.grown; in_range = (omega (arith, pre.in_range), pre.bars_fit.j_inside); bar_set = pre.bars_fit.two_fits }

pub returns-in-Nothing : goal.returns-in-Nothing
returns-in-Nothing c =
    let a = c.args in
    let r = c.add_child-first in
    let s = c.add_one in
    record { kept = kept_after a.task a.columns.now a.plans.now a.layers.now r.new.columns r.new.plans r.new.layers s.new.columns s.new.plans s.new.layers r.ensures.kept s.ensures.kept; grown = two_nothing (job_on a.task) a.task.capacity a.node a.made a.columns.now a.plans.now (barred_of a.bars.one) (barred_of a.bars.two) r.new.columns r.new.plans s.new.columns s.new.plans r.result c.in-Nothing.is s.result (nothing_changed a.task a.node (barred_of a.bars.one) a.made a.columns.now a.plans.now r.new.columns r.new.plans r.result c.in-Nothing.is r.ensures.tables.written) r.ensures.grown s.ensures.grown }

pub returns-in-Made : goal.returns-in-Made
returns-in-Made c =
    let a = c.args in
    let pre = c.requires in
    let r = c.add_child-first in
    let s = c.add_one-in-Made in
    record { kept = kept_after a.task a.columns.now a.plans.now a.layers.now r.new.columns r.new.plans r.new.layers s.new.columns s.new.plans s.new.layers r.ensures.kept s.ensures.kept; grown = two_made (job_on a.task) a.task.capacity a.node a.made a.columns.now a.plans.now (barred_of a.bars.one) (barred_of a.bars.two) r.new.columns r.new.plans s.new.columns s.new.plans r.result c.in-Made.is s.result pre.in_range r.ensures.grown s.ensures.grown }

pub returns-in-Full : goal.returns-in-Full
returns-in-Full c =
    let a = c.args in
    let r = c.add_child-first in
    record { kept = r.ensures.kept; grown = two_full (job_on a.task) a.task.capacity a.node a.made a.columns.now a.plans.now (barred_of a.bars.one) (barred_of a.bars.two) r.new.columns r.new.plans r.result c.in-Full.is r.ensures.grown }
