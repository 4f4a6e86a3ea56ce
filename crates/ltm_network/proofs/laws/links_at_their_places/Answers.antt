use Rattle.ltm_network.proofs.Counted.{has_places}
use Rattle.ltm_network.proofs.laws.links_at_their_places.Goals as goal

pub returns : goal.returns
returns c = has_places
