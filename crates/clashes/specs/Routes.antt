-- The routes that the code looks through, as the definitions read them.
use Rattle.clashes.specs.Clash.{Travel}
use Rattle.clashes.specs.Find.{in_plan}
use Rattle.clashes.specs.declared.Routes.{Routes}

abbrev pub travel_in : Routes → Travel
travel_in routes = in_plan routes.plan.now routes.slips routes.horizon
