use Rattle.ltm_routes.specs.Split.{lists_below}
use Rattle.ltm_routes.specs.Missing.{missing_from}
use Rattle.ltm_routes.specs.Setting.{HasSet}
use Rattle.ltm_routes.proofs.set_rows.set_rows_to.Given as goal

abbrev pub invariant-loop-node : goal.invariant-loop-node
invariant-loop-node l = HasSet l.fn.scenario (lists_below l.node (missing_from l.fn.scenario l.destination l.routes)) l.scenario
