use Rattle.ltm_demand.proofs.Produces.{rises, within, small}
use Rattle.ltm_demand.proofs.laws.production_never_falls.Goals as goal

pub returns : goal.returns
returns c = record { rises = rises; within = within; small = small }
