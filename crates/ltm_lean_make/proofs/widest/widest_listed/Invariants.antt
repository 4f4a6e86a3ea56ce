use Rattle.std.proofs.Common.{◌≤◌}
use Rattle.ltm_setting.specs.Setting.{setting_of}
use Rattle.ltm_units.specs.Bounds.{widest_row}
use Rattle.ltm_lean_make.specs.Widest.{IsWidestListed}
use Rattle.ltm_lean_make.proofs.widest.widest_listed.Given as goal

abbrev pub invariant-loop-node : goal.invariant-loop-node
invariant-loop-node l = record {
  widest : IsWidestListed (setting_of l.scenario) l.tables l.node l.widest;
  small : l.widest ≤ widest_row;
}
