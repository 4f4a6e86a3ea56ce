use Rattle.ltm_routes.specs.Split.{lists_below, routes_to}
use Rattle.ltm_routes.specs.Setting.{HasSet}
use Rattle.ltm_routes.proofs.Placed.{rows_of}
use Rattle.ltm_routes.proofs.set_rows.set_all.Given as goal

abbrev pub invariant-loop-destination : goal.invariant-loop-destination
invariant-loop-destination l = HasSet l.fn.scenario (lists_below l.destination (rows_of l.fn.scenario (routes_to l.all))) l.scenario
