-- A book that is not refused has the lines of its job; a refused one has one line. Assumes nothing.
use mathlib.Core.Path.{sym, ◌∙◌}
use Rattle.job.specs.Team.{lent_job}
use Rattle.lines.proofs.PrintedLaws.{good_printed, refused_printed}
use Rattle.lines.proofs.book_lines.Goals as goal

pub returns-in-Err : goal.returns-in-Err
returns-in-Err c =
    let a = c.args in
    refused_printed a.book.now a.n (record { columns = a.columns.now; plans = a.plans.now; layers = a.layers.now; output = a.output.now }) a.out.now c.in-Err.refusal c.book_number.result
    (sym c.judge_book.ensures ∙ c.in-Err.is) c.book_number.ensures c.refusal_lines.ensures

pub returns : goal.returns
returns c =
    let a = c.args in
    let job = c.job_in-job in
    good_printed a.book.now a.n (record { columns = a.columns.now; plans = a.plans.now; layers = a.layers.now; output = a.output.now }) a.out.now
    (lent_job job.result) job.result.team job.result.horizon c.plan-answer.result
    (sym c.judge_book.ensures ∙ c.in_default.is) job.ensures.job job.ensures.team job.ensures.horizon c.plan-answer.ensures c.answer_lines.ensures
