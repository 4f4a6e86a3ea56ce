use Rattle.std.proofs.Common.{◌≡◌, ap, ◌∙◌, rules}
use Rattle.std.specs.Option.{option_map}
use Rattle.ltm_units.specs.declared.places.LinkId.{LinkId}
use Rattle.ltm_network.specs.Names.{place_of}
use Rattle.ltm_network.specs.Network.{link_names}
use Rattle.ltm_network.proofs.Apart.{length-link_names, none_found}
use Rattle.ltm_network.proofs.Reading.{names_are, found_inside}
use Rattle.ltm_network.proofs.network.Network.find_link.Goals as goal

pub returns-clause-place : goal.returns-clause-place
returns-clause-place c =
    let here : option_map (λ (link : LinkId). link.0) c.map.result ≡ place_of c.self.inside.link_names c.args.name.now = search rules in
    here ∙ ap (λ names. place_of names c.args.name.now) (names_are c.self.inside.most_links c.self.inside.nodes c.self.inside.link_names c.self.inside.ends.items c.args.self.now (record { tables = c.self.invariant; network = c.self.view_is }))

pub returns-clause-absent : goal.returns-clause-absent
returns-clause-absent c =
    let here : option_map (λ (link : LinkId). link.0) c.map.result ≡ place_of c.self.inside.link_names c.args.name.now = search rules in
    none_found (λ (link : LinkId). link.0) c.map.result (link_names c.args.self.now) c.args.name.now
    (here ∙ ap (λ names. place_of names c.args.name.now) (names_are c.self.inside.most_links c.self.inside.nodes c.self.inside.link_names c.self.inside.ends.items c.args.self.now (record { tables = c.self.invariant; network = c.self.view_is })))

pub returns-clause-there : goal.returns-clause-there
returns-clause-there c =
    let here : option_map (λ (link : LinkId). link.0) c.map.result ≡ place_of c.self.inside.link_names c.args.name.now = search rules in
    let names = names_are c.self.inside.most_links c.self.inside.nodes c.self.inside.link_names c.self.inside.ends.items c.args.self.now (record { tables = c.self.invariant; network = c.self.view_is }) in
    found_inside (λ (link : LinkId). link.0) c.map.result (link_names c.args.self.now) c.args.name.now _ (here ∙ ap (λ names. place_of names c.args.name.now) names) (length-link_names c.args.self.now)
