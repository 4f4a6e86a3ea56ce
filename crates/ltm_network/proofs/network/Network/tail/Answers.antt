use Rattle.std.proofs.Common.{arith}
use Rattle.ltm_network.proofs.Reading.{count_is, is_network, tail_is}
use Rattle.ltm_network.proofs.network.Network.tail.Goals as goal

pub index-requires : goal.index-requires
index-requires c = omega (arith, count_is c.self.inside.most_links c.self.inside.nodes c.self.inside.link_names c.self.inside.ends.items c.args.self.now (record { tables = c.self.invariant; network = c.self.view_is }), c.requires, c.self.inside.ends.ok)

pub returns-clause-tail : goal.returns-clause-tail
returns-clause-tail c = tail_is c.self.inside.most_links c.self.inside.nodes c.self.inside.link_names c.self.inside.ends.items c.args.self.now c.args.link.0 c.index.result.now (record { tables = c.self.invariant; network = c.self.view_is }) c.requires c.index.ensures

pub returns-clause-there : goal.returns-clause-there
returns-clause-there c =
    omega (
      arith,
      tail_is c.self.inside.most_links c.self.inside.nodes c.self.inside.link_names c.self.inside.ends.items c.args.self.now c.args.link.0 c.index.result.now (record { tables = c.self.invariant; network = c.self.view_is }) c.requires c.index.ensures,
      (is_network c.self.inside.most_links c.self.inside.nodes c.self.inside.link_names c.self.inside.ends.items c.args.self.now (record { tables = c.self.invariant; network = c.self.view_is })).tail_is_node c.args.link.0 c.requires,
    )
