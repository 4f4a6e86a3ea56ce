use Rattle.ltm_routes.specs.Roads.{roads_of}
use Rattle.ltm_routes.proofs.Backward.{are_ways}
use Rattle.ltm_routes.proofs.search.BackwardLinks.keep_ways.Goals as goal

pub returns : goal.returns
returns c = are_ways (roads_of c.args.self.now.scenario.now) c.keep_roads.ensures
