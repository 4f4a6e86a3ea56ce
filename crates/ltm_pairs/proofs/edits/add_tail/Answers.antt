use Rattle.std.proofs.Common.{◌≡◌, length, arith, ap}
use Rattle.ltm_network.specs.Network.{NetworkData}
use Rattle.ltm_setting.specs.Setting.{setting_of}
use Rattle.ltm_pairs.proofs.Adding.{from_push}
use Rattle.ltm_pairs.proofs.edits.add_tail.Goals as goal

pub returns-in-Some-clause-there : goal.returns-in-Some-clause-there
unfolding setting_of
returns-in-Some-clause-there c =
    let same : length c.network-network.result.now.nodes ≡ length c.args.scenario.now.network.nodes = ap (λ (n : NetworkData). length n.nodes) c.network-network.ensures in
    from_push (setting_of c.args.scenario.now) 0 c.args.into.now c.push.new.self _ c.push.ensures (record { node = omega (same, c.tail-node.ensures.there, arith); later = omega arith; within = c.requires.slots })
