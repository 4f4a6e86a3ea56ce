use Rattle.ltm_setting.specs.Setting.{setting_of}
use Rattle.ltm_used.proofs.Finding.{FindsTo}
use Rattle.ltm_used.proofs.roots.find_of.Given as goal

abbrev pub invariant-loop-destination : goal.invariant-loop-destination
invariant-loop-destination l = FindsTo (setting_of l.scenario) l.goes l.initial.found l.found l.fn.node.0 l.destination
