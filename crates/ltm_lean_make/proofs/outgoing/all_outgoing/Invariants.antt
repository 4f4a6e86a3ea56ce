use Rattle.ltm_setting.specs.Setting.{setting_of}
use Rattle.ltm_lean.specs.declared.outgoing.Outgoing.{Outgoing}
use Rattle.ltm_lean_make.proofs.First.{IsFirstOut}
use Rattle.ltm_lean_make.proofs.Pushed.{AreAll}
use Rattle.ltm_lean_make.proofs.outgoing.all_outgoing.Given as goal

abbrev pub invariant-loop-j : goal.invariant-loop-j
invariant-loop-j l = AreAll Outgoing (IsFirstOut (setting_of l.scenario) l.tables l.fn.node.0) l.j l.outs.items
