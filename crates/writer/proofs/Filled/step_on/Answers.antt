-- `writer::Filled::step_on` meets its contract: the first move that goes on is the first of those wanted. Assumes nothing.
use mathlib.Core.Path.{refl, ap, ◌∙◌}
use lib.ListN.{get_or}
use Rattle.std.proofs.Common.{rules, tests}
use Rattle.std.proofs.lemmas.Iterator.{YieldsList-from_range}
use Rattle.lists.proofs.Ranges.{range_listed}
use Rattle.hall.proofs.Kit.{found_or}
use Rattle.lists.specs.Lists.{each}
use Rattle.writer.specs.Write.{wanted_on, stepped_to}
use Rattle.writer.proofs.Filled.step_on.Goals as goal

pub returns : goal.returns
unfolding stepped_to
returns c =
    let a = c.args in
    let wants = wanted_on a.self.grid.width a.self.grid.height a.self.horizon a.self.layers.now a.t a.v in
    c.unwrap_or.ensures
    ∙ found_or _ _ _ wants a.v _ (λ x b q k. search (rules, tests)) _ _ _ c.find_map.result c.find_map.ensures.ran c.find_map.ensures.runs (YieldsList-from_range 0 5 5 refl refl)
    ∙ ap (λ xs. get_or (each wants xs) 0 a.v) (range_listed 0 5)
