use Rattle.ltm_setting.specs.Setting.{setting_of}
use Rattle.ltm_lean.specs.declared.node.LeanNode.{LeanNode}
use Rattle.ltm_lean_make.proofs.First.{IsFirstNode}
use Rattle.ltm_lean_make.proofs.Pushed.{AreAll}
use Rattle.ltm_lean_make.proofs.nodes.nodes_of.Given as goal

abbrev pub invariant-loop-number : goal.invariant-loop-number
invariant-loop-number l = AreAll LeanNode (IsFirstNode (setting_of l.scenario) l.tables) l.number l.nodes.items
