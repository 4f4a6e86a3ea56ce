use Rattle.ltm_setting.specs.Setting.{setting_of}
use Rattle.ltm_lean.specs.declared.incoming.Incoming.{Incoming}
use Rattle.ltm_lean_make.proofs.First.{IsFirstIn}
use Rattle.ltm_lean_make.proofs.Pushed.{AreAll}
use Rattle.ltm_lean_make.proofs.incoming.all_incoming.Given as goal

abbrev pub invariant-loop-i : goal.invariant-loop-i
invariant-loop-i l = AreAll Incoming (IsFirstIn (setting_of l.scenario) l.tables l.fn.node.0) l.i l.ins.items
