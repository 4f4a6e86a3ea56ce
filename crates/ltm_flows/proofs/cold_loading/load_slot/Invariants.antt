use Rattle.ltm_setting.specs.Setting.{setting_of}
use Rattle.ltm_flows.specs.Working.{IsWorkingAt, HasRoom}
use Rattle.ltm_flows.proofs.cold_loading.load_slot.Given as goal

abbrev pub invariant-loop-node : goal.invariant-loop-node
invariant-loop-node l = record {
  working : IsWorkingAt (setting_of l.scenario) l.curves l.slot l.node;
  inputs : HasRoom (setting_of l.scenario) l.room.inputs.room;
  outputs : HasRoom (setting_of l.scenario) l.room.outputs.room;
}
