-- By the checks in their order, one law for each answer; an accepted job with long tables is ready for the search. Assumes nothing.
use mathlib.Core.Path.{sym, ◌∙◌}
use Rattle.job.specs.Team.{lent_job}
use Rattle.std.proofs.lemmas.Result.{err_from_is_err_and}
use Rattle.planner.proofs.Answers.{limits, ready, roomy, planned_refusal, planned_short, planned_ran}
use Rattle.planner.proofs.plan.Goals as goal

pub returns-in_err-judge_job : goal.returns-in_err-judge_job
returns-in_err-judge_job c =
    let a = c.args in
    let v = c.judge_job in
    let wrong-capacity = c.wrong_capacity in
    let told = err_from_is_err_and c.from_residual.result c.from_residual.ensures.1 in
    rw (told.1, told.2) (planned_refusal (lent_job a.job) a.n (record { columns = a.columns.now; plans = a.plans.now; layers = a.layers.now; output = a.output.now }) v.result wrong-capacity.result v.ensures wrong-capacity.ensures c.in_err-judge_job.field-0.0 c.in_err-judge_job.was)

pub first_short-requires : goal.first_short-requires
first_short-requires c =
    let a = c.args in
    let v = c.judge_job in
    let wrong-capacity = c.wrong_capacity in
    limits (record { job = a.job; capacity = a.n }) v.result wrong-capacity.result v.ensures wrong-capacity.ensures c.in_ok-judge_job.was

pub returns-in_err-first_short : goal.returns-in_err-first_short
returns-in_err-first_short c =
    let a = c.args in
    let v = c.judge_job in
    let wrong-capacity = c.wrong_capacity in
    let lengths = c.first_short in
    let told = err_from_is_err_and c.from_residual-in_err-first_short.result c.from_residual-in_err-first_short.ensures.1 in
    rw (told.1, told.2) (planned_short (lent_job a.job) a.n (record { columns = a.columns.now; plans = a.plans.now; layers = a.layers.now; output = a.output.now }) v.result wrong-capacity.result v.ensures wrong-capacity.ensures c.in_ok-judge_job.was lengths.result lengths.ensures c.in_err-first_short.field-0.0 c.in_err-first_short.was)

pub run-requires : goal.run-requires
run-requires c =
    let a = c.args in
    let v = c.judge_job in
    let wrong-capacity = c.wrong_capacity in
    let lengths = c.first_short in
    let room = roomy (record { job = a.job; capacity = a.n }) (record { columns = a.columns.now; plans = a.plans.now; layers = a.layers.now; output = a.output.now }) (sym c.in_ok-first_short.was ∙ lengths.ensures) in
    record { ready = ready (record { job = a.job; capacity = a.n }) v.result wrong-capacity.result v.ensures wrong-capacity.ensures c.in_ok-judge_job.was a.layers.now room.layers_room; roomy = room }

pub returns : goal.returns
returns c =
    let a = c.args in
    let v = c.judge_job in
    let wrong-capacity = c.wrong_capacity in
    let lengths = c.first_short in
    let r = c.run in
    planned_ran (lent_job a.job) a.n (record { columns = a.columns.now; plans = a.plans.now; layers = a.layers.now; output = a.output.now }) v.result wrong-capacity.result v.ensures wrong-capacity.ensures c.in_ok-judge_job.was lengths.result lengths.ensures c.in_ok-first_short.was r.result (record { columns = r.new.columns; plans = r.new.plans; layers = r.new.layers; output = r.new.output }) r.ensures
