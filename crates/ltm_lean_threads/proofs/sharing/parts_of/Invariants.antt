use Rattle.std.proofs.Common.{◌≡◌, All, length}
use Rattle.ltm_setting.specs.Setting.{setting_of}
use Rattle.ltm_lean_threads.specs.Runs.{HasRoom}
use Rattle.ltm_lean_threads.proofs.sharing.parts_of.Given as goal

abbrev pub invariant-loop-part : goal.invariant-loop-part
invariant-loop-part l = record {
  count : length l.parts.items ≡ l.part;
  room : All (HasRoom (setting_of l.scenario) l.tables) l.parts.items;
}
