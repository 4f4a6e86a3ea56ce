use Rattle.std.proofs.Common.{◌+◌}
use Rattle.ltm_setting.specs.Setting.{setting_of}
use Rattle.ltm_flows.specs.Production.{RenewsNodes}
use Rattle.ltm_flows.proofs.production.Production.renew_boundary.Given as goal

abbrev pub invariant-loop-node : goal.invariant-loop-node
invariant-loop-node l = RenewsNodes (setting_of l.scenario) l.node l.boundary (l.boundary + 1) l.fn.self l.self
