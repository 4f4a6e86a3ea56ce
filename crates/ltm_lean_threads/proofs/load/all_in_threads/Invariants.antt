use Rattle.std.proofs.Common.{◌≡◌, ◌-◌, ◌+◌, All, length}
use Rattle.ltm_curve.specs.Counts.{Counts}
use Rattle.ltm_curve.specs.TotalCurves.{HasTotals}
use Rattle.ltm_loading.specs.Loading.{IsLoading}
use Rattle.ltm_setting.specs.Setting.{setting_of}
use Rattle.ltm_setting.specs.Places.{all_groups}
use Rattle.ltm_lean.specs.Nodes.{AreTables, IsFrozen}
use Rattle.ltm_lean_kept.specs.Kept.{AreNodes, AllStand, KeptBefore}
use Rattle.ltm_lean_threads.specs.Runs.{HasRoom}
use Rattle.ltm_lean_threads.proofs.load.all_in_threads.Given as goal

abbrev pub invariant-loop-slot : goal.invariant-loop-slot
invariant-loop-slot g l = record {
  tables : AreTables (setting_of l.scenario) l.tables;
  nodes : AreNodes (setting_of l.scenario) l.tables l.nodes;
  count : length l.parts ≡ length l.initial.parts;
  room : All (HasRoom (setting_of l.scenario) l.tables) l.parts;
  frozen : (c : Counts) → IsLoading (setting_of l.scenario) c → IsFrozen (setting_of l.scenario) c l.slot l.tables;
  shape : HasTotals l.curves (all_groups l.scenario) (setting_of l.scenario).slots;
  kept : (c : Counts) → IsLoading (setting_of l.scenario) c → KeptBefore (setting_of l.scenario) c (l.slot + 1) l.curves;
  stands : (c : Counts) → IsLoading (setting_of l.scenario) c → AllStand (setting_of l.scenario) c l.tables (l.slot - 1) l.slot l.nodes;
}
