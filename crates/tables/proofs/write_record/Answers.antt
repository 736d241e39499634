-- The values of the record are the numbers given, with the bar's in between. Assumes nothing.
use native.Mathlib.Omega.{arith}
use Rattle.tables.proofs.Records.{code_fits, recorded}
use Rattle.tables.proofs.write_record.Goals as goal

pub overflow_cast-values-2 : goal.overflow_cast-values-2
overflow_cast-values-2 c = omega (arith, (code_fits c.args.bar c.from-code.result c.from-code.ensures c.requires.fitting.bar_fits).kind_fits)

pub overflow_cast-values-4 : goal.overflow_cast-values-4
overflow_cast-values-4 c = omega (arith, (code_fits c.args.bar c.from-code.result c.from-code.ensures c.requires.fitting.bar_fits).first_fits)

pub overflow_cast-values-5 : goal.overflow_cast-values-5
overflow_cast-values-5 c = omega (arith, (code_fits c.args.bar c.from-code.result c.from-code.ensures c.requires.fitting.bar_fits).second_fits)

pub overflow_cast-values-6 : goal.overflow_cast-values-6
overflow_cast-values-6 c = omega (arith, (code_fits c.args.bar c.from-code.result c.from-code.ensures c.requires.fitting.bar_fits).third_fits)

pub returns : goal.returns
returns c = recorded c.args.capacity c.args.columns.now c.args.node c.args.parent c.args.carrier c.args.bar c.args.sum c.from-code.result c.fill_record.new.columns c.from-code.ensures c.fill_record.ensures
