use Rattle.std.proofs.Common.{◌≡◌, ap, ◌∙◌}
use Rattle.ltm_network.specs.Network.{NetworkData, in_links}
use Rattle.ltm_routes.proofs.Out.{numbers, enters, entered_at}
use Rattle.ltm_routes.proofs.search.BackwardLinks.leaving.Goals as goal

pub returns : goal.returns
returns c =
    let network = c.args.self.now.scenario.now.network in
    let links = c.in_links.result.now in
    let are : numbers links ≡ in_links network c.args.node.0 = c.in_links.ensures.links ∙ ap (λ (n : NetworkData). in_links n c.args.node.0) c.network.ensures in
    record {
      each = λ i d low. enters network c.args.node.0 links i d c.links_at_their_places.ensures are low;
      all = λ link low at. entered_at network c.args.node.0 links link c.links_at_their_places.ensures are low at;
    }
