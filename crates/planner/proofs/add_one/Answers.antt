-- By what became of the child, one law for each. Assumes nothing.
use Rattle.children.specs.Steps.{job_on, barred_of}
use Rattle.planner.proofs.Children.{nothing_changed, one_nothing, one_made, one_full}
use Rattle.planner.proofs.add_one.Goals as goal

pub returns-in-Nothing : goal.returns-in-Nothing
returns-in-Nothing c =
    let a = c.args in
    let pre = c.requires in
    let r = c.add_child-grown in
    record {
      kept = r.ensures.kept;
      grown = one_nothing (job_on a.task) a.task.capacity a.node a.made a.columns.now a.plans.now (barred_of a.barred)
          r.new.columns r.new.plans r.result c.in-Nothing.is pre.sound (nothing_changed a.task a.node (barred_of a.barred) a.made a.columns.now a.plans.now r.new.columns r.new.plans r.result c.in-Nothing.is r.ensures.tables.written) r.ensures.grown;
    }

pub returns-in-Made : goal.returns-in-Made
returns-in-Made c =
    let a = c.args in
    let r = c.add_child-grown in
    record {
      kept = r.ensures.kept;
      grown = one_made (job_on a.task) a.task.capacity a.node a.made a.columns.now a.plans.now (barred_of a.barred)
          r.new.columns r.new.plans r.result c.in-Made.is r.ensures.grown;
    }

pub returns-in-Full : goal.returns-in-Full
returns-in-Full c =
    let a = c.args in
    let r = c.add_child-grown in
    record {
      kept = r.ensures.kept;
      grown = one_full (job_on a.task) a.task.capacity a.node a.made a.columns.now a.plans.now (barred_of a.barred)
          r.new.columns r.new.plans r.result c.in-Full.is r.ensures.grown;
    }
