use Rattle.ltm_routes.proofs.Kept.{free_time_is}
use Rattle.ltm_routes.proofs.roads.free_time.Goals as goal

pub returns : goal.returns
returns c = free_time_is c.args.scenario.now c.args.link.0 c.diagram-diagram.result.now c.limits.result c.diagram-diagram.ensures (c.limits.ensures c.diagram-diagram.result.now c.diagram-diagram.ensures)
