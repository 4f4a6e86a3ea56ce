use Rattle.ltm_setting.specs.Setting.{setting_of}
use Rattle.ltm_flows.specs.Production.{RenewsNodes}
use Rattle.ltm_flows.proofs.production.Production.renew.Given as goal

abbrev pub invariant-loop-boundary : goal.invariant-loop-boundary
invariant-loop-boundary l = RenewsNodes (setting_of l.scenario) l.fn.self.nodes l.fn.from l.boundary l.fn.self l.self
