use Rattle.ltm_setting.specs.Setting.{setting_of}
use Rattle.ltm_used.proofs.AtNodes.{FindsDemand}
use Rattle.ltm_used.proofs.nodes.find_produced.Given as goal

abbrev pub invariant-loop-destination : goal.invariant-loop-destination
invariant-loop-destination l = FindsDemand (setting_of l.scenario) l.fn.node.0 l.initial.found l.found l.destination
