-- No root, and the tree has no node; or the search from the root is the tree's. Assumes nothing.
use Rattle.children.specs.Steps.{job_on}
use Rattle.planner.proofs.Tails.{kept_after, ready_after}
use Rattle.planner.proofs.Turns.{tree_none, tree_ended, root_sound}
use Rattle.planner.proofs.grow.Goals as goal

pub returns-then-not-make_root : goal.returns-then-not-make_root
returns-then-not-make_root c =
    let a = c.args in
    let m = c.make_root in
    let if1 = c.if-not-make_root in
    record { kept = m.ensures.kept; ended = tree_none (job_on a.task) a.task.capacity m.new.columns m.new.plans m.new.columns m.new.plans m.result if1.true m.ensures.rooted }

pub search_all-requires : goal.search_all-requires
search_all-requires c =
    let a = c.args in
    let pre = c.requires in
    let m = c.make_root in
    let if1 = c.if-not-make_root in record { ready = ready_after a.task a.columns.now a.plans.now a.layers.now m.new.columns m.new.plans m.new.layers pre.ready m.ensures.kept; sound = root_sound (job_on a.task) a.task.capacity m.new.columns m.new.plans m.result if1.false m.ensures.rooted }

pub returns : goal.returns
returns c =
    let a = c.args in
    let pre = c.requires in
    let m = c.make_root in
    let s = c.search_all in
    let if1 = c.if-not-make_root in record { kept = kept_after a.task a.columns.now a.plans.now a.layers.now m.new.columns m.new.plans m.new.layers s.new.columns s.new.plans s.new.layers m.ensures.kept s.ensures.kept; ended = tree_ended (job_on a.task) a.task.capacity m.new.columns m.new.plans s.new.columns s.new.plans s.result m.result if1.false pre.ready.capacity_least m.ensures.rooted s.ensures.ended }
