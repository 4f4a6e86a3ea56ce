use Rattle.std.proofs.Common.{◌≡◌, ℕ, ◌<◌, true}
use Rattle.ltm_routes.specs.Roads.{roads_of}
use Rattle.ltm_routes.specs.Potentials.{fits_over}
use Rattle.ltm_routes.proofs.potentials.all_fit.Given as goal

abbrev pub invariant-loop-link : goal.invariant-loop-link
invariant-loop-link l = (link : ℕ) → link < l.link → fits_over (roads_of l.scenario) l.potentials link ≡ true
