-- Closing the node takes it from the open ones and changes no other; its children come after them. Assumes nothing.
use native.Mathlib.Omega.{arith}
use Rattle.children.specs.Steps.{job_on, barred_of}
use Rattle.planner.proofs.Turns.{shut_sound, shut_parted}
use Rattle.planner.proofs.Tails.{kept_shut, kept_after}
use Rattle.planner.proofs.part.Goals as goal

pub add_two-requires : goal.add_two-requires
add_two-requires c =
    let a = c.args in
    let pre = c.requires in
    let k = c.close in
    record { ready = pre.ready; sound = shut_sound (job_on a.task) a.task.capacity a.node a.made a.columns.now a.plans.now k.new.columns k.ensures pre.sound; in_range = pre.in_range; bars_fit = pre.bars_fit }

pub returns : goal.returns
returns c =
    let a = c.args in
    let pre = c.requires in
    let k = c.close in
    let t = c.add_two in record { kept = kept_after a.task a.columns.now a.plans.now a.layers.now k.new.columns a.plans.now a.layers.now t.new.columns t.new.plans t.new.layers (kept_shut a.task a.columns.now a.plans.now a.layers.now a.node k.new.columns (omega (arith, pre.sound.made, pre.in_range)) k.ensures) t.ensures.kept; grown = shut_parted (job_on a.task) a.task.capacity a.node a.made a.columns.now a.plans.now k.new.columns k.ensures (barred_of a.bars.one) (barred_of a.bars.two) t.new.columns t.new.plans t.result (omega (arith, pre.sound.made, pre.in_range)) t.ensures.grown }
