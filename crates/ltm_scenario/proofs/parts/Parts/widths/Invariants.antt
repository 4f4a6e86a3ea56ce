use Rattle.std.proofs.Common.{◌≡◌, ◌*◌, ◌≤◌, sum_by}
use Rattle.ltm_units.specs.Bounds.{widest_row}
use Rattle.std.specs.List.{range_with_len}
use Rattle.ltm_scenario.specs.Cells.{width}
use Rattle.ltm_scenario.specs.Parts.{scenario_in}
use Rattle.ltm_scenario.proofs.parts.Parts.widths.Given as goal

abbrev pub invariant-loop-node : goal.invariant-loop-node
invariant-loop-node l = record {
  sum : l.widths ≡ sum_by (width (scenario_in l.self)) (range_with_len 0 l.node);
  small : l.widths ≤ l.node * widest_row;
}
