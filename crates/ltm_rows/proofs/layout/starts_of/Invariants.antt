use Rattle.std.proofs.Common.{◌≡◌, slice_index}
use Rattle.ltm_setting.specs.Setting.{setting_of}
use Rattle.ltm_rows.specs.Starts.{AreStarts}
use Rattle.ltm_rows.proofs.layout.starts_of.Given as goal

abbrev pub invariant-loop-node : goal.invariant-loop-node
invariant-loop-node l = record {
  starts : AreStarts (setting_of l.fn.scenario) l.fn.part l.node l.starts.items;
  total : l.total ≡ slice_index l.starts.items l.node;
}
