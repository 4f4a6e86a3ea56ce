use Rattle.ltm_setting.specs.Setting.{setting_of}
use Rattle.ltm_lean_load.specs.Nodes.{gone_at}
use Rattle.ltm_lean_load.proofs.Adding.{AddsFor}
use Rattle.ltm_lean_load.proofs.passed.add_all_left.Given as goal

abbrev pub invariant-loop-u : goal.invariant-loop-u
invariant-loop-u l =
    AddsFor (setting_of l.scenario).head (gone_at (setting_of l.scenario) l.nodes) (setting_of l.scenario).links l.slot l.u l.initial.left l.left
