use Rattle.std.proofs.Common.{◌≡◌}
use Rattle.ltm_setting.specs.Setting.{setting_of}
use Rattle.ltm_repair.specs.Desk.{IsIdleBefore}
use Rattle.ltm_repair.specs.Moves.{DropsSettled}
use Rattle.ltm_working.specs.Desks.{desk_at}
use Rattle.ltm_working.specs.Ready.{IsReady}
use Rattle.ltm_working.specs.Dropping.{SameWorkAs}
use Rattle.ltm_working.proofs.table.Table.find_first.Given as goal

abbrev pub invariant-loop-slot : goal.invariant-loop-slot
invariant-loop-slot l = record {
  ready : IsReady (setting_of l.scenario) l.self;
  drops : DropsSettled (setting_of l.scenario) (desk_at (setting_of l.scenario) l.fn.self) (desk_at (setting_of l.scenario) l.self);
  idle : IsIdleBefore (setting_of l.scenario) (desk_at (setting_of l.scenario) l.self) l.slot;
  same : SameWorkAs l.fn.self l.self;
  room : l.inputs.room ≡ l.fn.inputs.room;
}
