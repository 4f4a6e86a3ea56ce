use Rattle.ltm_setting.specs.Setting.{setting_of}
use Rattle.ltm_lean_load.specs.Nodes.{came_at}
use Rattle.ltm_lean_load.proofs.Adding.{AddsFor}
use Rattle.ltm_lean_load.proofs.passed.add_all_entered.Given as goal

abbrev pub invariant-loop-u : goal.invariant-loop-u
invariant-loop-u l =
    AddsFor (setting_of l.scenario).tail (came_at (setting_of l.scenario) l.nodes) (setting_of l.scenario).links l.slot l.u l.initial.entered l.entered
