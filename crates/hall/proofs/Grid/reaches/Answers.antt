-- `hall::Grid::reaches` meets its contract: of the five moves one lands there, where one of the cells in reach is it. Assumes nothing.
use Rattle.std.proofs.Common.{rules, tests, eqb, refl, ◌∙◌}
use Rattle.std.proofs.lemmas.Iterator.{YieldsList-from_range}
use Rattle.std.proofs.lemmas.Iterator.Search.{any_from_yields_List}
use Rattle.lists.specs.Lists.{any_of}
use Rattle.hall.specs.Moves.{landing, reach_from}
use Rattle.hall.proofs.Kit.{any_ranged}
use Rattle.hall.proofs.Grid.reaches.Goals as goal

pub returns : goal.returns
unfolding reach_from
returns c =
    let a = c.args in
    any_from_yields_List (λ m. any_of (eqb a.to) (landing a.self.width a.self.height a.row a.col m)) _ _ c.any.result c.any.ensures.ran (YieldsList-from_range 0 5 5 refl refl) (λ x b q k. search (rules, tests)) ∙ any_ranged (eqb a.to) (landing a.self.width a.self.height a.row a.col) 0 5
