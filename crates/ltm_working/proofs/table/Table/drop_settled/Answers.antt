use Rattle.ltm_setting.specs.Setting.{setting_of}
use Rattle.ltm_working.proofs.Dropping.{drops_one, drop_ready}
use Rattle.ltm_working.proofs.table.Table.drop_settled.Goals as goal

pub returns-clause-drops : goal.returns-clause-drops
returns-clause-drops c = drops_one (setting_of c.args.scenario.now) c.args.self.now c.args.pair.node.0 c.args.pair.slot _ c.requires.ready.ready c.requires.node c.requires.slot c.requires.settled c.unmark.ensures

pub returns-clause-ready : goal.returns-clause-ready
returns-clause-ready c = drop_ready (setting_of c.args.scenario.now) c.args.self.now c.args.pair.node.0 c.args.pair.slot _ c.requires.ready.ready c.requires.node c.requires.slot c.requires.active c.unmark.ensures c.requires.placed
    (drops_one (setting_of c.args.scenario.now) c.args.self.now c.args.pair.node.0 c.args.pair.slot _ c.requires.ready.ready c.requires.node c.requires.slot c.requires.settled c.unmark.ensures)
