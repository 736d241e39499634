-- A chosen clash names carriers and steps that there are, so its bars fit their columns; the two children are the node's kids.
-- Assumes nothing.
use native.Mathlib.Omega.{arith}
use Rattle.tables.specs.State.{node_at}
use Rattle.children.specs.Steps.{job_on}
use Rattle.planner.proofs.Turns.{split_clear, split_meeting, split_swap}
use Rattle.planner.proofs.Cells.{placed, stays_fit, crosses_fit, node_cell, meeting_within, swap_within}
use Rattle.planner.proofs.Tails.{kept_self}
use Rattle.planner.proofs.split.Goals as goal

pub cell_of-v-requires : goal.cell_of-v-requires
cell_of-v-requires c =
    let a = c.args in
    let pre = c.requires in
    let job = job_on a.task in
    let w = (meeting_within job (node_at job a.task.capacity a.columns.now a.plans.now a.node) a.clash pre.clash_found c.in-Meeting.first c.in-Meeting.second c.in-Meeting.step c.in-Meeting.distance c.in-Meeting.is) in
    record { placed = placed a.task a.layers.now a.columns.now a.plans.now a.made a.node pre.ready pre.sound pre.in_range; in_range = (w.0, w.2) }

pub stay_bars-bars-requires : goal.stay_bars-bars-requires
stay_bars-bars-requires c =
    let a = c.args in
    let pre = c.requires in
    let job = job_on a.task in
    let w = (meeting_within job (node_at job a.task.capacity a.columns.now a.plans.now a.node) a.clash pre.clash_found c.in-Meeting.first c.in-Meeting.second c.in-Meeting.step c.in-Meeting.distance c.in-Meeting.is) in
    (omega (arith, w.0, pre.ready.count_most), omega (arith, w.1, pre.ready.count_most), omega (arith, w.2, pre.ready.horizon_most), pre.ready.slips_most c.in-Meeting.first w.0, pre.ready.slips_most c.in-Meeting.second w.1)

pub part-requires : goal.part-requires
part-requires c =
    let a = c.args in
    let pre = c.requires in
    let stay-bars = c.stay_bars-bars in
    let cell-of = c.cell_of-v in
    let job = job_on a.task in
    let w = (meeting_within job (node_at job a.task.capacity a.columns.now a.plans.now a.node) a.clash pre.clash_found c.in-Meeting.first c.in-Meeting.second c.in-Meeting.step c.in-Meeting.distance c.in-Meeting.is) in record { ready = pre.ready; sound = pre.sound; in_range = pre.in_range; bars_fit = stays_fit a.task stay-bars.result c.in-Meeting.first c.in-Meeting.second w.0 w.1 cell-of.result c.in-Meeting.step stay-bars.ensures cell-of.ensures.1 (omega (arith, w.2, pre.ready.horizon_most)) pre.ready.slips_most }

pub cell_of-u-requires : goal.cell_of-u-requires
cell_of-u-requires c =
    let a = c.args in
    let pre = c.requires in
    let job = job_on a.task in
    let w = (swap_within job (node_at job a.task.capacity a.columns.now a.plans.now a.node) a.clash pre.clash_found c.in-Swap.first c.in-Swap.second c.in-Swap.step c.in-Swap.is) in
    record { placed = placed a.task a.layers.now a.columns.now a.plans.now a.made a.node pre.ready pre.sound pre.in_range; in_range = (w.0, omega (arith, w.2)) }

pub cell_of-v-requires-in-Swap : goal.cell_of-v-requires-in-Swap
cell_of-v-requires-in-Swap c =
    let a = c.args in
    let pre = c.requires in
    let job = job_on a.task in
    let w = (swap_within job (node_at job a.task.capacity a.columns.now a.plans.now a.node) a.clash pre.clash_found c.in-Swap.first c.in-Swap.second c.in-Swap.step c.in-Swap.is) in
    record { placed = placed a.task a.layers.now a.columns.now a.plans.now a.made a.node pre.ready pre.sound pre.in_range; in_range = (w.1, omega (arith, w.2)) }

pub part-requires-in-Swap : goal.part-requires-in-Swap
part-requires-in-Swap c =
    let a = c.args in
    let pre = c.requires in
    let cross-bars = c.cross_bars-bars in
    let cell-of2 = c.cell_of-u in
    let cell-of3 = c.cell_of-v-in-Swap in
    let job = job_on a.task in
    let w = (swap_within job (node_at job a.task.capacity a.columns.now a.plans.now a.node) a.clash pre.clash_found c.in-Swap.first c.in-Swap.second c.in-Swap.step c.in-Swap.is) in record { ready = pre.ready; sound = pre.sound; in_range = pre.in_range; bars_fit = crosses_fit a.task cross-bars.result c.in-Swap.first c.in-Swap.second w.0 w.1 cell-of2.result cell-of3.result c.in-Swap.step cross-bars.ensures cell-of2.ensures.1 cell-of3.ensures.1 (omega (arith, w.2, pre.ready.horizon_most)) }

pub returns-in-Clear : goal.returns-in-Clear
returns-in-Clear c =
    let a = c.args in
    let pre = c.requires in
    record { kept = kept_self a.task a.columns.now a.plans.now a.layers.now; parted = split_clear (job_on a.task) a.task.capacity a.node a.made a.columns.now a.plans.now a.clash pre.clash_found c.in-Clear.is }

pub returns-in-Meeting : goal.returns-in-Meeting
returns-in-Meeting c =
    let a = c.args in
    let pre = c.requires in
    let t = c.part in
    let stay-bars = c.stay_bars-bars in
    let cell-of = c.cell_of-v in record { kept = t.ensures.kept; parted = split_meeting (job_on a.task) a.task.capacity a.node a.made a.columns.now a.plans.now a.clash pre.clash_found stay-bars.result t.new.columns t.new.plans t.result c.in-Meeting.first c.in-Meeting.second c.in-Meeting.step c.in-Meeting.distance cell-of.result c.in-Meeting.is (node_cell a.task a.task.capacity a.columns.now a.plans.now a.node c.in-Meeting.first c.in-Meeting.step cell-of.result cell-of.ensures.0) stay-bars.ensures t.ensures.grown }

pub returns-in-Swap : goal.returns-in-Swap
returns-in-Swap c =
    let a = c.args in
    let pre = c.requires in
    let t = c.part-in-Swap in
    let cross-bars = c.cross_bars-bars in
    let cell-of2 = c.cell_of-u in
    let cell-of3 = c.cell_of-v-in-Swap in record { kept = t.ensures.kept; parted = split_swap (job_on a.task) a.task.capacity a.node a.made a.columns.now a.plans.now a.clash pre.clash_found cross-bars.result t.new.columns t.new.plans t.result c.in-Swap.first c.in-Swap.second c.in-Swap.step cell-of2.result cell-of3.result c.in-Swap.is (node_cell a.task a.task.capacity a.columns.now a.plans.now a.node c.in-Swap.first c.in-Swap.step cell-of2.result cell-of2.ensures.0) (node_cell a.task a.task.capacity a.columns.now a.plans.now a.node c.in-Swap.second c.in-Swap.step cell-of3.result cell-of3.ensures.0) cross-bars.ensures t.ensures.grown }
