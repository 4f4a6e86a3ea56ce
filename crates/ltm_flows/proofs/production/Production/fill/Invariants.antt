use Rattle.ltm_setting.specs.Setting.{setting_of}
use Rattle.ltm_flows.specs.Production.{ProducedByFirst}
use Rattle.ltm_flows.proofs.production.Production.fill.Given as goal

abbrev pub invariant-loop-node : goal.invariant-loop-node
invariant-loop-node l = ProducedByFirst (setting_of l.scenario) l.node l.fn.self l.self
