use Rattle.std.proofs.Common.{◌≡◌, map, take}
use Rattle.ltm_units.specs.declared.places.LinkId.{LinkId}
use Rattle.ltm_routes.specs.Split.{weight_of}
use Rattle.ltm_routes.proofs.set_rows.route_split.Given as goal

abbrev pub invariant-each : goal.invariant-each
invariant-each l = l.weights.items ≡ map (λ (link : LinkId). weight_of l.routes link.0) (take l.link-index l.links)
