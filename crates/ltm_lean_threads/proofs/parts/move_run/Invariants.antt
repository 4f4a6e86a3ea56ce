use Rattle.ltm_setting.specs.Setting.{setting_of}
use Rattle.ltm_lean_load.specs.Nodes.{HasRoomForAll}
use Rattle.ltm_lean_threads.proofs.Runs.{MovedTo}
use Rattle.ltm_lean_threads.proofs.parts.move_run.Given as goal

abbrev pub invariant-loop-k : goal.invariant-loop-k
invariant-loop-k l = record {
  moved : MovedTo (setting_of l.scenario) l.tables l.slot l.k l.initial.nodes l.nodes;
  room : HasRoomForAll (setting_of l.scenario) l.tables l.room;
}
