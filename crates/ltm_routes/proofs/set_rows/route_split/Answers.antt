use Rattle.std.proofs.Common.{map, ap, ◌∙◌}
use Rattle.std.proofs.lemmas.List.{take_all}
use Rattle.ltm_units.specs.declared.places.LinkId.{LinkId}
use Rattle.ltm_network.specs.Network.{NetworkData, out_links}
use Rattle.ltm_routes.specs.Split.{weight_of}
use Rattle.ltm_routes.proofs.Out.{map_numbers}
use Rattle.ltm_routes.proofs.set_rows.route_split.Goals as goal

pub returns : goal.returns
returns c =
    c.each.invariant
    ∙ ap (map (λ (link : LinkId). weight_of c.args.routes.now link.0)) (take_all c.each.link-index c.out_links-links.result.now c.each-test.false)
    ∙ map_numbers (weight_of c.args.routes.now) c.out_links-links.result.now
    ∙ ap (map (weight_of c.args.routes.now)) (c.out_links-links.ensures.links ∙ ap (λ (n : NetworkData). out_links n c.args.node.0) c.network.ensures)
