use Rattle.ltm_setting.specs.Setting.{setting_of}
use Rattle.ltm_flows.specs.Working.{IsWorking, HasRoom}
use Rattle.ltm_flows.proofs.cold_loading.cold.Given as goal

abbrev pub invariant-loop-slot : goal.invariant-loop-slot
invariant-loop-slot l = record {
  working : IsWorking (setting_of l.scenario) l.curves l.slot;
  inputs : HasRoom (setting_of l.scenario) l.room.inputs.room;
  outputs : HasRoom (setting_of l.scenario) l.room.outputs.room;
}
