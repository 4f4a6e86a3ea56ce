use Rattle.std.proofs.Common.{◌≡◌, ◌++◌}
use Rattle.std.specs.Prelude.{All}
use Rattle.std.specs.List.{flat_map}
use Rattle.ltm_routes.specs.Split.{lists_below, rows_from}
use Rattle.ltm_routes_command.specs.declared.lines.RouteLines.TheVariants as lines
use Rattle.ltm_routes_command.specs.Lines.{line_of}
use Rattle.ltm_routes_command.specs.File.{IsNamed}
use Rattle.ltm_routes_command.proofs.texts.push_lines_to.Given as goal

abbrev pub invariant-loop-node : goal.invariant-loop-node
invariant-loop-node l = record {
  text : l.into.items ≡ l.fn.into.items ++ flat_map (line_of l.lines l.scenario l.routes) (lists_below l.node (rows_from l.scenario l.destination l.routes));
  named : l.lines ≡ lines.Splits → All (IsNamed l.scenario.network l.scenario.destinations) (lists_below l.node (rows_from l.scenario l.destination l.routes));
}
