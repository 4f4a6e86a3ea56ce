use Rattle.ltm_routes.specs.Roads.{roads_of}
use Rattle.ltm_routes.specs.Potentials.{is_tight_over}
use Rattle.ltm_routes.specs.Split.{AreFlags}
use Rattle.ltm_routes.proofs.found.tight_links.Given as goal

abbrev pub invariant-loop-link : goal.invariant-loop-link
invariant-loop-link l = AreFlags l.link (is_tight_over (roads_of l.scenario) l.potentials) l.flags.items
