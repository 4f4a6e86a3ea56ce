use Rattle.std.proofs.Common.{◌≤◌, length, arith}
use Rattle.ltm_units.specs.Bounds.{most_links}
use Rattle.ltm_network.proofs.Reading.{count_is, few_ends}
use Rattle.ltm_network.proofs.network.Network.links.Goals as goal

pub overflow_cast-result : goal.overflow_cast-result
overflow_cast-result c =
    let few : length c.self.inside.ends.items ≤ most_links = few_ends c.self.inside.most_links c.self.inside.nodes c.self.inside.link_names c.self.inside.ends.items c.args.self.now (record { tables = c.self.invariant; network = c.self.view_is }) in
    omega (arith, few, c.len.ensures, c.self.inside.ends.ok)

pub returns-clause-count : goal.returns-clause-count
returns-clause-count c = omega (arith, count_is c.self.inside.most_links c.self.inside.nodes c.self.inside.link_names c.self.inside.ends.items c.args.self.now (record { tables = c.self.invariant; network = c.self.view_is }), c.len.ensures, c.self.inside.ends.ok)
