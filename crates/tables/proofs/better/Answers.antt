-- By the cases of the test and of the best so far, one law for each. Assumes nothing.
use native.Mathlib.Omega.{arith}
use Rattle.tables.proofs.Taking.{keep_best, take_only, take_later, keep_earlier, least_of_lem, taken_inside}
use Rattle.tables.proofs.better.Goals as goal

pub returns-then-columns-capacity-eq-IS_CLOSED : goal.returns-then-columns-capacity-eq-IS_CLOSED
returns-then-columns-capacity-eq-IS_CLOSED c = keep_best c.args.capacity c.args.columns.now c.args.node c.args.best c.if-columns-capacity-eq-IS_CLOSED.true c.requires.least

pub overflow_add-capacity-in-Some-1 : goal.overflow_add-capacity-in-Some-1
overflow_add-capacity-in-Some-1 c = omega (arith, taken_inside c.args.capacity c.args.columns.now c.args.node c.in-Some.x (least_of_lem c.args.capacity c.args.columns.now c.args.node c.args.best c.in-Some.x c.in-Some.is c.requires.least))

pub offset_bounds-columns-capacity-in-Some-1 : goal.offset_bounds-columns-capacity-in-Some-1
offset_bounds-columns-capacity-in-Some-1 c = omega (arith, taken_inside c.args.capacity c.args.columns.now c.args.node c.in-Some.x (least_of_lem c.args.capacity c.args.columns.now c.args.node c.args.best c.in-Some.x c.in-Some.is c.requires.least))

pub bounds-columns-capacity-in-Some-1 : goal.bounds-columns-capacity-in-Some-1
bounds-columns-capacity-in-Some-1 c = omega (arith, taken_inside c.args.capacity c.args.columns.now c.args.node c.in-Some.x (least_of_lem c.args.capacity c.args.columns.now c.args.node c.args.best c.in-Some.x c.in-Some.is c.requires.least))

pub returns-in-Some : goal.returns-in-Some
returns-in-Some c = keep_earlier c.args.capacity c.args.columns.now c.args.node c.in-Some.x c.if-columns-capacity.true (least_of_lem c.args.capacity c.args.columns.now c.args.node c.args.best c.in-Some.x c.in-Some.is c.requires.least)

pub returns-in_default : goal.returns-in_default
returns-in_default c = take_later c.args.capacity c.args.columns.now c.args.node c.in-Some.x c.if-columns-capacity-eq-IS_CLOSED.false c.if-columns-capacity.false (least_of_lem c.args.capacity c.args.columns.now c.args.node c.args.best c.in-Some.x c.in-Some.is c.requires.least)

pub returns-in_default-2 : goal.returns-in_default-2
returns-in_default-2 c = take_only c.args.capacity c.args.columns.now c.args.node c.args.best c.in_default.is c.if-columns-capacity-eq-IS_CLOSED.false c.requires.least
