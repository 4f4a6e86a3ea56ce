use Rattle.ltm_loading.proofs.DifferingLaws.{differing_is_within_pairs_holds}
use Rattle.ltm_loading.proofs.laws.differing_is_within_pairs.Goals as goal

pub returns : goal.returns
returns c = differing_is_within_pairs_holds
