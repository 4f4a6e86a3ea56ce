use Rattle.std.proofs.Common.{◌≡◌, [], length, get_or, sym, ap, ◌∙◌, arith}
use Rattle.std.proofs.lemmas.Option.{get_or_from_slice_get}
use Rattle.ltm_network.proofs.Apart.{link_at, length-link_names}
use Rattle.ltm_network.proofs.Reading.{names_are}
use Rattle.ltm_network.proofs.network.Network.link_name.Goals as goal

pub name-requires : goal.name-requires
name-requires c = omega (arith, ap length (names_are c.self.inside.most_links c.self.inside.nodes c.self.inside.link_names c.self.inside.ends.items c.args.self.now (record { tables = c.self.invariant; network = c.self.view_is })), length-link_names c.args.self.now, c.requires)

pub returns : goal.returns
returns c =
    let here : c.name.result ≡ get_or c.self.inside.link_names c.args.link.0 [] = sym (get_or_from_slice_get c.self.inside.link_names c.args.link.0 c.name.result [] c.name.ensures) in
    here ∙ ap (λ names. get_or names c.args.link.0 []) (names_are c.self.inside.most_links c.self.inside.nodes c.self.inside.link_names c.self.inside.ends.items c.args.self.now (record { tables = c.self.invariant; network = c.self.view_is })) ∙ link_at c.args.self.now c.args.link.0 c.requires
