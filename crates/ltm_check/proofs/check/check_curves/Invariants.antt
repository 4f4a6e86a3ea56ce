use Rattle.ltm_curve.specs.Table.{counts_of}
use Rattle.ltm_loading.specs.Loading.{IsFront}
use Rattle.ltm_setting.specs.Setting.{setting_of}
use Rattle.ltm_flows.specs.Working.{HasRoom}
use Rattle.ltm_check.proofs.check.check_curves.Given as goal

abbrev pub invariant-loop-slot : goal.invariant-loop-slot
invariant-loop-slot l = record {
  front : IsFront (setting_of l.scenario) (counts_of l.curves) l.slot;
  inputs : HasRoom (setting_of l.scenario) l.room.inputs.room;
  outputs : HasRoom (setting_of l.scenario) l.room.outputs.room;
}
