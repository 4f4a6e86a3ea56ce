use Rattle.std.proofs.Common.{◌≡◌, refl, rules}
use Rattle.std.specs.Option.{option_map}
use Rattle.ltm_units.specs.declared.places.NodeId.{NodeId}
use Rattle.ltm_network.specs.Network.{find_node}
use Rattle.ltm_network.proofs.Apart.{none_found}
use Rattle.ltm_network.proofs.Reading.{found_inside}
use Rattle.ltm_network.proofs.network.Network.find_node.Goals as goal

pub returns-clause-absent : goal.returns-clause-absent
returns-clause-absent c =
    let here : option_map (λ (node : NodeId). node.0) c.map.result ≡ find_node c.args.self.now c.args.name.now = search rules in
    none_found (λ (node : NodeId). node.0) c.map.result c.args.self.now.nodes c.args.name.now here

pub returns-clause-there : goal.returns-clause-there
returns-clause-there c =
    let here : option_map (λ (node : NodeId). node.0) c.map.result ≡ find_node c.args.self.now c.args.name.now = search rules in
    found_inside (λ (node : NodeId). node.0) c.map.result c.args.self.now.nodes c.args.name.now _ here refl
