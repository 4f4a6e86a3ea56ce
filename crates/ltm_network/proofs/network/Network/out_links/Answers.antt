use Rattle.std.proofs.Common.{◌≡◌, map, rules}
use Rattle.ltm_units.specs.declared.places.LinkId.{LinkId}
use Rattle.ltm_network.specs.Network.{out_links}
use Rattle.ltm_network.proofs.Counted.{has_places}
use Rattle.ltm_network.proofs.Reading.{all_inside}
use Rattle.ltm_network.proofs.network.Network.out_links.Goals as goal

pub returns-clause-there : goal.returns-clause-there
returns-clause-there c =
    let here : map (λ (link : LinkId). link.0) c.out_links.result.now ≡ out_links c.args.self.now c.args.node.0 = search rules in
    all_inside c.out_links.result.now (out_links c.args.self.now c.args.node.0) _ here ((has_places c.args.self.now).out_link_is_link c.args.node.0)
