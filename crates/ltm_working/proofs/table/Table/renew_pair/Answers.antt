use Rattle.std.proofs.Common.{◌+◌}
use Rattle.ltm_setting.specs.Setting.{setting_of}
use Rattle.ltm_working.specs.Renewed.{renewed_counts}
use Rattle.ltm_working.proofs.Renewals.{pair_quiet, pair_woken}
use Rattle.ltm_working.proofs.table.Table.renew_pair.Goals as goal

pub returns-then-not-any : goal.returns-then-not-any
returns-then-not-any c = pair_quiet (setting_of c.args.renewal.scenario.now) c.args.renewal.pair.node.0 (c.args.renewal.pair.slot + 1) (renewed_counts c.args.renewal c.args.self.now) c.args.self.now c.renew_node-any.new.self _ c.renew_node-any.ensures c.if-not-any.true

pub returns : goal.returns
returns c = pair_woken (setting_of c.args.renewal.scenario.now) c.args.renewal.pair.node.0 (c.args.renewal.pair.slot + 1) (renewed_counts c.args.renewal c.args.self.now) c.args.self.now c.renew_node-any.new.self _ c.wake_next.new.frontier c.wake_next.new.kept c.renew_node-any.ensures c.if-not-any.false c.wake_next.ensures.wakes c.wake_next.ensures.kept
