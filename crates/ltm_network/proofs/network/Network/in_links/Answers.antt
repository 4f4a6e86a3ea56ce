use Rattle.std.proofs.Common.{◌≡◌, map, rules}
use Rattle.ltm_units.specs.declared.places.LinkId.{LinkId}
use Rattle.ltm_network.specs.Network.{in_links}
use Rattle.ltm_network.proofs.Counted.{has_places}
use Rattle.ltm_network.proofs.Reading.{all_inside}
use Rattle.ltm_network.proofs.network.Network.in_links.Goals as goal

pub returns-clause-there : goal.returns-clause-there
returns-clause-there c =
    let here : map (λ (link : LinkId). link.0) c.in_links.result.now ≡ in_links c.args.self.now c.args.node.0 = search rules in
    all_inside c.in_links.result.now (in_links c.args.self.now c.args.node.0) _ here ((has_places c.args.self.now).in_link_is_link c.args.node.0)
