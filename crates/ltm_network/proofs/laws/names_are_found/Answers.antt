use Rattle.ltm_network.proofs.Apart.{names_found}
use Rattle.ltm_network.proofs.laws.names_are_found.Goals as goal

pub returns : goal.returns
returns c = names_found
