use Rattle.ltm_routes.specs.Split.{AreFirstRoutes}
use Rattle.ltm_routes.proofs.found.all_routes.Given as goal

abbrev pub invariant-loop-destination : goal.invariant-loop-destination
invariant-loop-destination l = AreFirstRoutes l.scenario l.destination l.all.items
