use Rattle.ltm_network.proofs.Growing.{stays}
use Rattle.ltm_network.proofs.laws.networks_stay_networks.Goals as goal

pub returns : goal.returns
returns c = stays
