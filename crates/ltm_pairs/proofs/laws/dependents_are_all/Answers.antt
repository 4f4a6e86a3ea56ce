use Rattle.ltm_pairs.proofs.DependentsAll.{dependents_are_all}
use Rattle.ltm_pairs.proofs.laws.dependents_are_all.Goals as goal

pub returns : goal.returns
returns c = dependents_are_all c.readers_are_all.ensures
