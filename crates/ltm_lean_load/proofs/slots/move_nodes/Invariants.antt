use Rattle.ltm_setting.specs.Setting.{setting_of}
use Rattle.ltm_lean.specs.Rooms.{SameRoom}
use Rattle.ltm_lean_load.proofs.Moving.{MovedTo}
use Rattle.ltm_lean_load.proofs.slots.move_nodes.Given as goal

abbrev pub invariant-loop-u : goal.invariant-loop-u
invariant-loop-u l = record {
  moved : MovedTo (setting_of l.scenario) l.tables l.slot l.u l.initial.nodes l.nodes;
  room : SameRoom l.initial.room l.room;
}
