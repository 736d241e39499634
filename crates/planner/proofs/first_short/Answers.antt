-- The four tests in their order. Assumes nothing.
use mathlib.Core.Path.{◌∙◌}
use Rattle.std.proofs.lemmas.Result.{err_from_is_err_and}
use Rattle.planner.proofs.Answers.{short_columns, short_plans_lem, short_layers, last_told}
use Rattle.planner.proofs.first_short.Goals as goal

pub returns-in_err-enough : goal.returns-in_err-enough
returns-in_err-enough c =
    let a = c.args in
    let short = c.in_err-enough.ensures.short in
    let told = err_from_is_err_and c.from_residual.result c.from_residual.ensures.1 in
    rw (told.1, told.2) (short.1 ∙ short_columns a.task (record { columns = a.columns.now; plans = a.plans.now; layers = a.layers.now; output = a.output.now }) short.0)

pub returns-in_err-enough-2 : goal.returns-in_err-enough-2
returns-in_err-enough-2 c =
    let a = c.args in
    let stretch-of = c.stretch_of-size in
    let short = c.in_err-enough-2.ensures.short in
    let told = err_from_is_err_and c.from_residual-in_err-enough-2.result c.from_residual-in_err-enough-2.ensures.1 in
    rw (told.1, told.2) (short.1 ∙ short_plans_lem a.task (record { columns = a.columns.now; plans = a.plans.now; layers = a.layers.now; output = a.output.now }) c.in_ok-enough.ensures.ok stretch-of.result stretch-of.ensures short.0)

pub returns-in_err-enough-3 : goal.returns-in_err-enough-3
returns-in_err-enough-3 c =
    let a = c.args in
    let stretch-of = c.stretch_of-size in
    let layers-of = c.layers_of in
    let short = c.in_err-enough-3.ensures.short in
    let told = err_from_is_err_and c.from_residual-in_err-enough-3.result c.from_residual-in_err-enough-3.ensures.1 in
    rw (told.1, told.2) (short.1 ∙ short_layers a.task (record { columns = a.columns.now; plans = a.plans.now; layers = a.layers.now; output = a.output.now }) c.in_ok-enough.ensures.ok stretch-of.result stretch-of.ensures c.in_ok-enough-2.ensures.ok layers-of.result layers-of.ensures short.0)

pub returns : goal.returns
returns c =
    let a = c.args in
    let stretch-of = c.stretch_of-size in
    let layers-of = c.layers_of in
    let last = c.enough-4 in
    last_told a.task (record { columns = a.columns.now; plans = a.plans.now; layers = a.layers.now; output = a.output.now }) c.in_ok-enough.ensures.ok stretch-of.result stretch-of.ensures c.in_ok-enough-2.ensures.ok layers-of.result layers-of.ensures c.in_ok-enough-3.ensures.ok last.result last.ensures.ok last.ensures.short
