use Rattle.std.proofs.Common.{◌≡◌, ◌-◌}
use Rattle.ltm_setting.specs.Setting.{setting_of}
use Rattle.ltm_working.specs.Desks.{desk_at}
use Rattle.ltm_working.specs.Ready.{IsReady}
use Rattle.ltm_working.specs.Dropping.{DropsAt, NoneActive, SameWorkAs}
use Rattle.ltm_working.proofs.table.Table.find_at.Given as goal

abbrev pub invariant-loop-from : goal.invariant-loop-from
invariant-loop-from l = record {
  ready : IsReady (setting_of l.scenario) l.self;
  drops : DropsAt (setting_of l.scenario) (desk_at (setting_of l.scenario) l.fn.self) l.slot (desk_at (setting_of l.scenario) l.self);
  same : SameWorkAs l.fn.self l.self;
  none : NoneActive (desk_at (setting_of l.scenario) l.self) l.slot l.from.0;
  room : l.inputs.room ≡ l.fn.inputs.room;
}

abbrev pub decreases-loop-from : goal.decreases-loop-from
decreases-loop-from l = l.nodes - l.from.0
