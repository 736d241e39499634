-- `hall::Hall::wrong_bytes` meets its contract: where the length is right, what the iterator answers is what the definition does. Assumes nothing.
use Rattle.std.proofs.Common.{rules, tests, ◌∙◌}
use Rattle.std.proofs.lemmas.Iterator.{YieldsList-from_slice}
use Rattle.std.proofs.lemmas.Iterator.Search.{any_from_yields_List}
use borrow.Author.Tests.{eq-eqb}
use Rattle.hall.specs.Hall.{wrong_byte, wrong_bytes}
use Rattle.hall.proofs.Kit.{any_listed}
use Rattle.hall.proofs.Hall.wrong_bytes.Goals as goal

pub returns-else-self-size : goal.returns-else-self-size
unfolding wrong_bytes
returns-else-self-size c =
    let bytes = c.args.self.bytes.now in
    any_from_yields_List wrong_byte _ _ c.any.result c.any.ensures.ran (YieldsList-from_slice bytes cc) (λ x b q k. search (rules, tests)) ∙ any_listed wrong_byte bytes ∙ simp (← c.size.ensures, eq-eqb _ _ c.if-self-size.false)
