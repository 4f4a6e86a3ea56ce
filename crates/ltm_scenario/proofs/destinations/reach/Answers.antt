use Rattle.std.proofs.Common.{◌+◌, arith}
use Rattle.ltm_scenario.proofs.Places.{none_padded}
use Rattle.ltm_scenario.proofs.destinations.reach.Goals as goal

pub returns-in_ok-resize-clause-same : goal.returns-in_ok-resize-clause-same
returns-in_ok-resize-clause-same c = λ n.
    none_padded c.args.places.now.items c.resize.new.self.items (c.args.node.0 + 1) _ n (omega (arith, c.args.places.now.ok.0)) c.in_ok-resize.ensures.items
