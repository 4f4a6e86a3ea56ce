use Rattle.std.proofs.Common.{◌≡◌, [], ◌∷◌, ◌++◌, length, take, ap, sym, ◌∙◌, arith}
use Rattle.std.proofs.Math.Seq.{take-append_seam}
use Rattle.ltm_network.specs.Names.{place_of}
use Rattle.ltm_network.specs.Network.{checked, network_linked}
use Rattle.ltm_network.specs.Tables.{network_of}
use Rattle.ltm_network.proofs.Growing.{IsTaken, taken}
use Rattle.ltm_network.proofs.Joined.{IsJoined, joined_data, joined_room, joined_tables}
use Rattle.ltm_network.proofs.Reading.{count_is, few_ends, names_are}
use Rattle.ltm_network.proofs.network.Network.join.Goals as goal

pub push-requires-clause-new : goal.push-requires-clause-new
push-requires-clause-new c =
    ap (λ names. place_of names c.args.name) (names_are c.self.inside.most_links c.self.inside.nodes c.self.inside.link_names c.self.inside.ends.items c.args.self.now (record { tables = c.self.invariant; network = c.self.view_is }))
    ∙ (taken c.args.self.now c.args.name c.args.tail.now c.args.head.now c.requires).new

pub push-requires-clause-few : goal.push-requires-clause-few
push-requires-clause-few c = omega (arith, few_ends c.self.inside.most_links c.self.inside.nodes c.self.inside.link_names c.self.inside.ends.items c.args.self.now (record { tables = c.self.invariant; network = c.self.view_is }), c.self.invariant.names_long)

pub connect-requires-clause-tail : goal.connect-requires-clause-tail
connect-requires-clause-tail c =
    let met : IsTaken (network_of c.self.inside.most_links c.self.inside.nodes.names c.self.inside.link_names c.self.inside.ends.items) c.args.name c.args.tail.now c.args.head.now = taken _ _ _ _ (ap (λ d. checked d c.args.name c.args.tail.now c.args.head.now) c.self.view_is ∙ c.requires) in
    let link_is : c.links.result ≡ length c.self.inside.ends.items = c.links.ensures.count ∙ sym (count_is c.self.inside.most_links c.self.inside.nodes c.self.inside.link_names c.self.inside.ends.items c.args.self.now (record { tables = c.self.invariant; network = c.self.view_is })) in
    let joined : IsJoined c.self.inside.most_links c.self.inside.nodes c.self.inside.link_names c.self.inside.ends.items c.args.name c.args.tail.now c.args.head.now c.links.result c.in-Ok.ends.tail c.in-Ok.ends.head = record { tables = c.self.invariant; met = met; link_is = link_is; tail_is = c.in-Ok.ensures.tail; head_is = c.in-Ok.ensures.head } in
    rw c.in-Ok.ensures.ok (joined_room c.self.inside.most_links c.self.inside.nodes c.self.inside.link_names c.self.inside.ends.items c.args.name c.args.tail.now c.args.head.now c.links.result c.in-Ok.ends.tail c.in-Ok.ends.head joined).tail_there

pub connect-requires-clause-head : goal.connect-requires-clause-head
connect-requires-clause-head c =
    let met : IsTaken (network_of c.self.inside.most_links c.self.inside.nodes.names c.self.inside.link_names c.self.inside.ends.items) c.args.name c.args.tail.now c.args.head.now = taken _ _ _ _ (ap (λ d. checked d c.args.name c.args.tail.now c.args.head.now) c.self.view_is ∙ c.requires) in
    let link_is : c.links.result ≡ length c.self.inside.ends.items = c.links.ensures.count ∙ sym (count_is c.self.inside.most_links c.self.inside.nodes c.self.inside.link_names c.self.inside.ends.items c.args.self.now (record { tables = c.self.invariant; network = c.self.view_is })) in
    let joined : IsJoined c.self.inside.most_links c.self.inside.nodes c.self.inside.link_names c.self.inside.ends.items c.args.name c.args.tail.now c.args.head.now c.links.result c.in-Ok.ends.tail c.in-Ok.ends.head = record { tables = c.self.invariant; met = met; link_is = link_is; tail_is = c.in-Ok.ensures.tail; head_is = c.in-Ok.ensures.head } in
    rw c.in-Ok.ensures.ok (joined_room c.self.inside.most_links c.self.inside.nodes c.self.inside.link_names c.self.inside.ends.items c.args.name c.args.tail.now c.args.head.now c.links.result c.in-Ok.ends.tail c.in-Ok.ends.head joined).head_there

pub connect-requires-clause-out_room : goal.connect-requires-clause-out_room
connect-requires-clause-out_room c =
    let met : IsTaken (network_of c.self.inside.most_links c.self.inside.nodes.names c.self.inside.link_names c.self.inside.ends.items) c.args.name c.args.tail.now c.args.head.now = taken _ _ _ _ (ap (λ d. checked d c.args.name c.args.tail.now c.args.head.now) c.self.view_is ∙ c.requires) in
    let link_is : c.links.result ≡ length c.self.inside.ends.items = c.links.ensures.count ∙ sym (count_is c.self.inside.most_links c.self.inside.nodes c.self.inside.link_names c.self.inside.ends.items c.args.self.now (record { tables = c.self.invariant; network = c.self.view_is })) in
    let joined : IsJoined c.self.inside.most_links c.self.inside.nodes c.self.inside.link_names c.self.inside.ends.items c.args.name c.args.tail.now c.args.head.now c.links.result c.in-Ok.ends.tail c.in-Ok.ends.head = record { tables = c.self.invariant; met = met; link_is = link_is; tail_is = c.in-Ok.ensures.tail; head_is = c.in-Ok.ensures.head } in
    rw c.in-Ok.ensures.ok (joined_room c.self.inside.most_links c.self.inside.nodes c.self.inside.link_names c.self.inside.ends.items c.args.name c.args.tail.now c.args.head.now c.links.result c.in-Ok.ends.tail c.in-Ok.ends.head joined).out_room

pub connect-requires-clause-in_room : goal.connect-requires-clause-in_room
connect-requires-clause-in_room c =
    let met : IsTaken (network_of c.self.inside.most_links c.self.inside.nodes.names c.self.inside.link_names c.self.inside.ends.items) c.args.name c.args.tail.now c.args.head.now = taken _ _ _ _ (ap (λ d. checked d c.args.name c.args.tail.now c.args.head.now) c.self.view_is ∙ c.requires) in
    let link_is : c.links.result ≡ length c.self.inside.ends.items = c.links.ensures.count ∙ sym (count_is c.self.inside.most_links c.self.inside.nodes c.self.inside.link_names c.self.inside.ends.items c.args.self.now (record { tables = c.self.invariant; network = c.self.view_is })) in
    let joined : IsJoined c.self.inside.most_links c.self.inside.nodes c.self.inside.link_names c.self.inside.ends.items c.args.name c.args.tail.now c.args.head.now c.links.result c.in-Ok.ends.tail c.in-Ok.ends.head = record { tables = c.self.invariant; met = met; link_is = link_is; tail_is = c.in-Ok.ensures.tail; head_is = c.in-Ok.ensures.head } in
    rw c.in-Ok.ensures.ok (joined_room c.self.inside.most_links c.self.inside.nodes c.self.inside.link_names c.self.inside.ends.items c.args.name c.args.tail.now c.args.head.now c.links.result c.in-Ok.ends.tail c.in-Ok.ends.head joined).in_room

pub invariant_of-self-in-Ok : goal.invariant_of-self-in-Ok
invariant_of-self-in-Ok c =
    let met : IsTaken (network_of c.self.inside.most_links c.self.inside.nodes.names c.self.inside.link_names c.self.inside.ends.items) c.args.name c.args.tail.now c.args.head.now = taken _ _ _ _ (ap (λ d. checked d c.args.name c.args.tail.now c.args.head.now) c.self.view_is ∙ c.requires) in
    let link_is : c.links.result ≡ length c.self.inside.ends.items = c.links.ensures.count ∙ sym (count_is c.self.inside.most_links c.self.inside.nodes c.self.inside.link_names c.self.inside.ends.items c.args.self.now (record { tables = c.self.invariant; network = c.self.view_is })) in
    let joined : IsJoined c.self.inside.most_links c.self.inside.nodes c.self.inside.link_names c.self.inside.ends.items c.args.name c.args.tail.now c.args.head.now c.links.result c.in-Ok.ends.tail c.in-Ok.ends.head = record { tables = c.self.invariant; met = met; link_is = link_is; tail_is = c.in-Ok.ensures.tail; head_is = c.in-Ok.ensures.head } in
    rw (c.connect.ensures, c.in-Ok.ensures.ok, c.in_ok-push.ensures.ok, c.push_ends.ensures, c.in_ok-reserve.ensures.items) (joined_tables c.self.inside.most_links c.self.inside.nodes c.self.inside.link_names c.self.inside.ends.items c.args.name c.args.tail.now c.args.head.now c.links.result c.in-Ok.ends.tail c.in-Ok.ends.head joined)

pub returns-in-Ok-clause-ok : goal.returns-in-Ok-clause-ok
returns-in-Ok-clause-ok c =
    let met : IsTaken (network_of c.self.inside.most_links c.self.inside.nodes.names c.self.inside.link_names c.self.inside.ends.items) c.args.name c.args.tail.now c.args.head.now = taken _ _ _ _ (ap (λ d. checked d c.args.name c.args.tail.now c.args.head.now) c.self.view_is ∙ c.requires) in
    let link_is : c.links.result ≡ length c.self.inside.ends.items = c.links.ensures.count ∙ sym (count_is c.self.inside.most_links c.self.inside.nodes c.self.inside.link_names c.self.inside.ends.items c.args.self.now (record { tables = c.self.invariant; network = c.self.view_is })) in
    let joined : IsJoined c.self.inside.most_links c.self.inside.nodes c.self.inside.link_names c.self.inside.ends.items c.args.name c.args.tail.now c.args.head.now c.links.result c.in-Ok.ends.tail c.in-Ok.ends.head = record { tables = c.self.invariant; met = met; link_is = link_is; tail_is = c.in-Ok.ensures.tail; head_is = c.in-Ok.ensures.head } in
    rw (c.connect.ensures, c.in-Ok.ensures.ok, c.in_ok-push.ensures.ok, c.push_ends.ensures, c.in_ok-reserve.ensures.items)
    (joined_data c.self.inside.most_links c.self.inside.nodes c.self.inside.link_names c.self.inside.ends.items c.args.name c.args.tail.now c.args.head.now c.links.result c.in-Ok.ends.tail c.in-Ok.ends.head joined ∙ ap (λ d. network_linked d c.args.name c.args.tail.now c.args.head.now) c.self.view_is)

pub invariant_of-self-in-Err : goal.invariant_of-self-in-Err
invariant_of-self-in-Err c =
    let last : c.links.result ≡ length c.self.inside.link_names = omega (arith, c.links.ensures.count, count_is c.self.inside.most_links c.self.inside.nodes c.self.inside.link_names c.self.inside.ends.items c.args.self.now (record { tables = c.self.invariant; network = c.self.view_is }), c.self.invariant.names_long) in
    let front : take c.links.result (c.self.inside.link_names ++ c.args.name ∷ []) ≡ c.self.inside.link_names = ap (λ k. take k (c.self.inside.link_names ++ c.args.name ∷ [])) last ∙ take-append_seam c.self.inside.link_names (c.args.name ∷ []) in
    rw (c.in-Err.ensures.err, c.truncate.ensures, c.in_ok-push.ensures.ok, c.in_ok-reserve.ensures.items, front) c.self.invariant

pub returns-in-Err-clause-err : goal.returns-in-Err-clause-err
returns-in-Err-clause-err c =
    let last : c.links.result ≡ length c.self.inside.link_names = omega (arith, c.links.ensures.count, count_is c.self.inside.most_links c.self.inside.nodes c.self.inside.link_names c.self.inside.ends.items c.args.self.now (record { tables = c.self.invariant; network = c.self.view_is }), c.self.invariant.names_long) in
    let front : take c.links.result (c.self.inside.link_names ++ c.args.name ∷ []) ≡ c.self.inside.link_names = ap (λ k. take k (c.self.inside.link_names ++ c.args.name ∷ [])) last ∙ take-append_seam c.self.inside.link_names (c.args.name ∷ []) in
    rw (c.in-Err.ensures.err, c.truncate.ensures, c.in_ok-push.ensures.ok, c.in_ok-reserve.ensures.items, front) c.self.view_is
