use Rattle.std.proofs.Common.{◌≡◌, ℕ, ◌<◌, false, slice_index_or}
use Rattle.ltm_units.specs.declared.places.LinkId.{LinkId}
use Rattle.ltm_routes.specs.Roads.{roads_of}
use Rattle.ltm_routes.specs.Potentials.{is_tight_over}
use Rattle.ltm_routes.proofs.potentials.leads_on.Given as goal

abbrev pub invariant-each : goal.invariant-each
invariant-each l = (place : ℕ) (d : LinkId) → place < l.link-index → is_tight_over (roads_of l.scenario) l.potentials (slice_index_or l.links place d).0 ≡ false
