use Rattle.std.proofs.Common.{◌==◌, false, ap, ◌∙◌}
use Rattle.std.specs.Option.{option_map_or}
use Rattle.ltm_network.specs.Network.{tail_of}
use Rattle.ltm_scenario.proofs.parts.Parts.is_out_link.Goals as goal

pub returns-in-Some : goal.returns-in-Some
returns-in-Some c =
    let n = c.args.self.now.network in
    ap (λ t. t == c.args.node.0) c.tail.ensures.tail
    ∙ ap (λ o. option_map_or (λ link. tail_of n link == c.args.node.0) o false) c.in-Some.ensures.place

pub returns-in-None : goal.returns-in-None
returns-in-None c =
    let n = c.args.self.now.network in
    ap (λ o. option_map_or (λ link. tail_of n link == c.args.node.0) o false) c.in-None.ensures.place
