use Rattle.std.proofs.Common.{◌≡◌, drop}
use Rattle.ltm_setting.specs.Setting.{setting_of}
use Rattle.ltm_loading.specs.Shaped.{IsShaped}
use Rattle.ltm_check.specs.File.{AreRightBelow}
use Rattle.ltm_check.proofs.Placing.{KeepsBelow}
use Rattle.ltm_check.proofs.read.read_rows.Given as goal

abbrev pub invariant-loop-place : goal.invariant-loop-place
invariant-loop-place l = record {
  left : l.records ≡ drop l.place l.fn.records;
  right : AreRightBelow l.scenario l.fn.records l.place;
  shape : IsShaped (setting_of l.scenario) l.curves;
  keeps : KeepsBelow l.scenario l.fn.records l.curves l.place;
}
