use Rattle.std.proofs.Common.{refl, arith}
use Rattle.ltm_setting.specs.Setting.{setting_of}
use Rattle.ltm_working.proofs.Desks.{claimed_pair, claimed_on, changed_same}
use Rattle.ltm_working.proofs.Giving.{gives_desk, gives_ready}
use Rattle.ltm_working.proofs.table.Table.give_back.Goals as goal

pub release-requires-clause-node : goal.release-requires-clause-node
release-requires-clause-node c = omega (arith, (claimed_pair (setting_of c.args.scenario.now) c.args.self.now c.args.pair.node.0 c.args.pair.slot c.requires.claimed).0, c.requires.ready.fits.frontier.nodes)

pub release-requires-clause-claimed : goal.release-requires-clause-claimed
release-requires-clause-claimed c =
    let s = setting_of c.args.scenario.now in
    let at = claimed_pair s c.args.self.now c.args.pair.node.0 c.args.pair.slot c.requires.claimed in
    claimed_on s c.args.self.now c.args.pair.node.0 c.args.pair.slot at.0 at.1 c.requires.claimed

pub mark-requires-clause-node : goal.mark-requires-clause-node
mark-requires-clause-node c = omega (arith, (claimed_pair (setting_of c.args.scenario.now) c.args.self.now c.args.pair.node.0 c.args.pair.slot c.requires.claimed).0, c.requires.ready.fits.frontier.nodes, c.release.ensures.size.nodes)

pub mark-requires-clause-slot : goal.mark-requires-clause-slot
mark-requires-clause-slot c = omega (arith, (claimed_pair (setting_of c.args.scenario.now) c.args.self.now c.args.pair.node.0 c.args.pair.slot c.requires.claimed).1, c.requires.ready.fits.frontier.slots, c.release.ensures.size.slots)

pub returns-clause-ready : goal.returns-clause-ready
returns-clause-ready c =
    let s = setting_of c.args.scenario.now in
    gives_ready s c.args.self.now c.args.pair.node.0 c.args.pair.slot c.release.new.self c.mark.new.self c.requires.ready c.release.ensures c.mark.ensures
    (gives_desk s c.args.self.now c.args.pair.node.0 c.args.pair.slot c.release.new.self c.mark.new.self c.requires.ready c.requires.claimed c.release.ensures c.mark.ensures)

pub returns-clause-desk : goal.returns-clause-desk
returns-clause-desk c = gives_desk (setting_of c.args.scenario.now) c.args.self.now c.args.pair.node.0 c.args.pair.slot c.release.new.self c.mark.new.self c.requires.ready c.requires.claimed c.release.ensures c.mark.ensures

pub returns-clause-changed : goal.returns-clause-changed
returns-clause-changed c = changed_same (setting_of c.args.scenario.now) c.args.self.now _ refl
