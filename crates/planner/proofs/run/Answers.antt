-- The search kept what lies past the least lengths, so the tables cleared are those at entry cleared. Assumes nothing.
use native.Mathlib.Omega.{arith}
use Rattle.tree.specs.Tree.{tree}
use Rattle.children.specs.Steps.{job_on}
use Rattle.planner.proofs.Written.{ended_placed, ran}
use Rattle.planner.proofs.run.Goals as goal

pub tell-answer-requires : goal.tell-answer-requires
tell-answer-requires c =
    let a = c.args in
    let pre = c.requires in
    let g = c.grow-end in record {
      placed = ended_placed a.task (tree (job_on a.task) a.task.capacity) a.layers.now g.new.columns g.new.plans g.result
          pre.ready (omega (arith, pre.roomy.plans_room, g.ensures.kept.plans_kept.long)) g.ensures.ended;
      room = pre.roomy.output_room;
    }

pub returns : goal.returns
returns c =
    let a = c.args in
    let g = c.grow-end in
    let t = c.tell-answer in
    let k = c.clear_all in
    ran a.task a.columns.now a.plans.now a.layers.now g.new.columns g.new.plans g.new.layers k.new.columns k.new.plans k.new.layers
    g.ensures.kept k.ensures a.output.now t.new.output g.result t.result g.ensures.ended t.ensures
