use Rattle.std.proofs.Common.{◌≡◌, ◌++◌}
use Rattle.std.specs.Prelude.{All}
use Rattle.ltm_routes.specs.Split.{lists_below, rows_to, routes_to}
use Rattle.ltm_routes_command.specs.declared.lines.RouteLines.TheVariants as lines
use Rattle.ltm_routes_command.specs.Lines.{lines_to, header_of}
use Rattle.ltm_routes_command.specs.File.{IsNamed}
use Rattle.ltm_routes_command.proofs.texts.routes_text.Given as goal

abbrev pub invariant-loop-destination : goal.invariant-loop-destination
invariant-loop-destination l = record {
  text : l.text.items ≡ header_of l.lines ++ lists_below l.destination (λ d. lines_to l.lines l.scenario (routes_to l.all d) d);
  named : l.lines ≡ lines.Splits → All (IsNamed l.scenario.network l.scenario.destinations) (lists_below l.destination (λ d. rows_to l.scenario d (routes_to l.all d)));
}
