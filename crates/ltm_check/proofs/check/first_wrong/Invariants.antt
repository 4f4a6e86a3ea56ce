use Rattle.ltm_curve.specs.Table.{counts_of}
use Rattle.ltm_loading.specs.NextPair.{IsFrontTo}
use Rattle.ltm_setting.specs.Setting.{setting_of}
use Rattle.ltm_flows.specs.Working.{HasRoom}
use Rattle.ltm_check.proofs.check.first_wrong.Given as goal

abbrev pub invariant-loop-node : goal.invariant-loop-node
invariant-loop-node l = record {
  front : IsFrontTo (setting_of l.scenario) (counts_of l.curves) l.slot l.node;
  inputs : HasRoom (setting_of l.scenario) l.room.inputs.room;
  outputs : HasRoom (setting_of l.scenario) l.room.outputs.room;
}
