-- The loop's invariant: the tables are in order, what lies past their least lengths is as it was, and what is left of the search from
-- them is what was left at the start. The measure is the records left and the open nodes. Assumes nothing.
use Rattle.children.specs.Steps.{job_on}
use Rattle.planner.specs.Steps.{tree_from}
use Rattle.planner.proofs.Tails.{kept_after, ready_after}
use Rattle.planner.proofs.Turns.{end_spent, end_clear, end_full, on_sound, on_from, on_less}
use Rattle.planner.proofs.search_all.Goals as goal

pub returns-in-Spent : goal.returns-in-Spent
returns-in-Spent c =
    let a = c.args in
    let l = c.loop-node in
    let r = c.take_turn-next in
    let job = job_on a.task in record { kept = kept_after a.task a.columns.now a.plans.now a.layers.now l.columns l.plans l.layers r.new.columns r.new.plans r.new.layers l.invariant.2 r.ensures.kept; ended = end_spent job a.task.capacity (tree_from job a.task.capacity a.columns.now a.plans.now 1) l.made l.columns l.plans r.new.columns r.new.plans l.invariant.3 r.result c.in-Spent.is r.ensures.went }

pub returns-in-Clear : goal.returns-in-Clear
returns-in-Clear c =
    let a = c.args in
    let l = c.loop-node in
    let r = c.take_turn-next in
    let job = job_on a.task in record { kept = kept_after a.task a.columns.now a.plans.now a.layers.now l.columns l.plans l.layers r.new.columns r.new.plans r.new.layers l.invariant.2 r.ensures.kept; ended = end_clear job a.task.capacity (tree_from job a.task.capacity a.columns.now a.plans.now 1) l.made l.columns l.plans r.new.columns r.new.plans l.invariant.3 r.result c.in-Clear.node l.invariant.1.made c.in-Clear.is r.ensures.went }

pub returns-in-Full : goal.returns-in-Full
returns-in-Full c =
    let a = c.args in
    let l = c.loop-node in
    let r = c.take_turn-next in
    let job = job_on a.task in record { kept = kept_after a.task a.columns.now a.plans.now a.layers.now l.columns l.plans l.layers r.new.columns r.new.plans r.new.layers l.invariant.2 r.ensures.kept; ended = end_full job a.task.capacity (tree_from job a.task.capacity a.columns.now a.plans.now 1) l.made l.columns l.plans r.new.columns r.new.plans l.invariant.3 r.result c.in-Full.is r.ensures.went }

pub loop-node-smaller : goal.loop-node-smaller
loop-node-smaller c =
    let a = c.args in
    let l = c.loop-node in
    let r = c.take_turn-next in
    on_less (job_on a.task) a.task.capacity l.made l.columns l.plans r.new.columns r.new.plans r.result c.in-On.more c.in-On.is r.ensures.went

pub loop-node-preserved : goal.loop-node-preserved
loop-node-preserved c =
    let a = c.args in
    let l = c.loop-node in
    let r = c.take_turn-next in
    let job = job_on a.task in (
      ready_after a.task l.columns l.plans l.layers r.new.columns r.new.plans r.new.layers l.invariant.0 r.ensures.kept,
      on_sound job a.task.capacity l.made l.columns l.plans r.new.columns r.new.plans r.result c.in-On.more c.in-On.is r.ensures.went,
      kept_after a.task a.columns.now a.plans.now a.layers.now l.columns l.plans l.layers r.new.columns r.new.plans r.new.layers l.invariant.2 r.ensures.kept,
      on_from job a.task.capacity (tree_from job a.task.capacity a.columns.now a.plans.now 1) l.made l.columns l.plans r.new.columns r.new.plans l.invariant.3 r.result c.in-On.more c.in-On.is r.ensures.went,
    )
