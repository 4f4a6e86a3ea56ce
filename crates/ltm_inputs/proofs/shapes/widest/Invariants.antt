use Rattle.ltm_setting.specs.Setting.{setting_of}
use Rattle.ltm_inputs.specs.Widest.{IsWidest}
use Rattle.ltm_inputs.proofs.shapes.widest.Given as goal

abbrev pub invariant-loop-node : goal.invariant-loop-node
invariant-loop-node l = IsWidest (setting_of l.scenario) l.node l.widest
