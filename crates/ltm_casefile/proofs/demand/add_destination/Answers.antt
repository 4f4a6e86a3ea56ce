use Rattle.ltm_casefile.proofs.Places.{place_is_one, place_is_own}
use Rattle.ltm_casefile.proofs.demand.add_destination.Goals as goal

pub returns-in-Ok-clause-there : goal.returns-in-Ok-clause-there
returns-in-Ok-clause-there c = place_is_one c.add_destination.new.self.destinations c.args.node.0 c.in-Ok.place c.in-Ok.ensures.place

pub returns-in-Ok-clause-node : goal.returns-in-Ok-clause-node
returns-in-Ok-clause-node c = place_is_own c.add_destination.new.self.destinations c.args.node.0 c.in-Ok.place c.in-Ok.ensures.place
