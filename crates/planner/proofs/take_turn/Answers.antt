-- No node is open, or the first of least sum is parted. Assumes nothing.
use Rattle.tables.proofs.Taking.{least_of_lem, taken_inside}
use Rattle.children.specs.Steps.{job_on}
use Rattle.planner.proofs.Turns.{turn_spent, turn_taken}
use Rattle.planner.proofs.Cells.{placed, node_clash}
use Rattle.planner.proofs.take_turn.Goals as goal

pub returns-in_default-clause-went : goal.returns-in_default-clause-went
returns-in_default-clause-went c =
    let a = c.args in
    let open-node = c.least_open in
    turn_spent (job_on a.task) a.task.capacity a.made a.columns.now a.plans.now c.requires.sound open-node.result c.in_default.is open-node.ensures

pub clash_at-clash-requires : goal.clash_at-clash-requires
clash_at-clash-requires c =
    let a = c.args in
    let open-node = c.least_open in
    placed a.task a.layers.now a.columns.now a.plans.now a.made c.in-Some.node c.requires.ready c.requires.sound
    (taken_inside a.task.capacity a.columns.now a.made c.in-Some.node (least_of_lem a.task.capacity a.columns.now a.made open-node.result c.in-Some.node c.in-Some.is open-node.ensures))

pub split-requires-clause-in_range : goal.split-requires-clause-in_range
split-requires-clause-in_range c =
    let a = c.args in
    let open-node = c.least_open in
    taken_inside a.task.capacity a.columns.now a.made c.in-Some.node (least_of_lem a.task.capacity a.columns.now a.made open-node.result c.in-Some.node c.in-Some.is open-node.ensures)

pub split-requires-clause-clash_found : goal.split-requires-clause-clash_found
split-requires-clause-clash_found c =
    let a = c.args in
    let clash-at = c.clash_at-clash in
    node_clash a.task a.task.capacity a.columns.now a.plans.now c.in-Some.node clash-at.result clash-at.ensures

pub returns-clause-went : goal.returns-clause-went
returns-clause-went c =
    let a = c.args in
    let s = c.split in
    let open-node = c.least_open in
    turn_taken (job_on a.task) a.task.capacity a.made a.columns.now a.plans.now c.requires.sound open-node.result c.in-Some.node c.in-Some.is open-node.ensures s.new.columns s.new.plans s.result s.ensures.parted
