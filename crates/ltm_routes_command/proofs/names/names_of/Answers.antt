use Rattle.std.proofs.Common.{map, ap, ◌∙◌}
use Rattle.std.proofs.lemmas.List.{take_all}
use Rattle.ltm_network.specs.Network.{NetworkData, link_name, out_links}
use Rattle.ltm_routes.specs.Split.{weight_of}
use Rattle.ltm_routes_command.specs.Lines.{sent_over}
use Rattle.ltm_routes_command.proofs.Walk.{begun, gathered}
use Rattle.ltm_routes_command.proofs.names.names_of.Goals as goal

pub returns-clause-names : goal.returns-clause-names
returns-clause-names c =
    c.each.invariant.names
    ∙ ap (begun c.network-network.result.now c.args.routes.now) (take_all c.each.link-index c.out_links-links.result.now c.each-test.false)
    ∙ gathered c.network-network.result.now c.args.routes.now c.out_links-links.result.now
    ∙ ap (λ numbers. map (link_name c.network-network.result.now) (sent_over numbers (map (weight_of c.args.routes.now) numbers))) c.out_links-links.ensures.links
    ∙ ap (λ (d : NetworkData). map (link_name d) (sent_over (out_links d c.args.node.0) (map (weight_of c.args.routes.now) (out_links d c.args.node.0)))) c.network-network.ensures
