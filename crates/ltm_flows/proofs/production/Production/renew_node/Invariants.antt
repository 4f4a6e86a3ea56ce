use Rattle.ltm_setting.specs.Setting.{setting_of}
use Rattle.ltm_flows.specs.Production.{RenewsNode}
use Rattle.ltm_flows.proofs.production.Production.renew_node.Given as goal

abbrev pub invariant-loop-boundary : goal.invariant-loop-boundary
invariant-loop-boundary l = RenewsNode (setting_of l.scenario) l.node.0 l.fn.from l.boundary l.fn.self l.self
