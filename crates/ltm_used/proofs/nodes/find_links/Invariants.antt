use Rattle.ltm_setting.specs.Setting.{setting_of}
use Rattle.ltm_used.proofs.AtNodes.{FindsLinks}
use Rattle.ltm_used.proofs.nodes.find_links.Given as goal

abbrev pub invariant-loop-place : goal.invariant-loop-place
invariant-loop-place l = FindsLinks (setting_of l.scenario) l.used l.fn.node.0 l.initial.found l.found l.place
