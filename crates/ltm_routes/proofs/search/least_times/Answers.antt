use Rattle.std.proofs.Common.{subst, sym}
use Rattle.ltm_routes.specs.Roads.{roads_of}
use Rattle.ltm_routes.specs.Potentials.{AreLeastTimes}
use Rattle.ltm_routes.proofs.Backward.{least_times}
use Rattle.ltm_routes.proofs.search.least_times.Goals as goal

pub returns-clause-least : goal.returns-clause-least
returns-clause-least c = subst (AreLeastTimes (roads_of c.args.scenario.now) c.args.end.0) (sym c.into_arrivals.ensures) (least_times (roads_of c.args.scenario.now) c.args.end.0 _ c.in_ok-run.ensures.earliest)
