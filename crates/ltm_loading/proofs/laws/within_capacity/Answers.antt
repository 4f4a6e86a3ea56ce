use Rattle.ltm_loading.proofs.Crossing.{within_capacity_holds}
use Rattle.ltm_loading.proofs.laws.within_capacity.Goals as goal

pub returns : goal.returns
returns c = within_capacity_holds
