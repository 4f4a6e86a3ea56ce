use Rattle.ltm_loading.proofs.SameRows.{counts_by_place_holds}
use Rattle.ltm_loading.proofs.laws.counts_by_place.Goals as goal

pub returns : goal.returns
returns c = counts_by_place_holds
