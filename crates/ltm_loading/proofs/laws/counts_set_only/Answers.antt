use Rattle.ltm_loading.proofs.Setters.{counts_set_only_holds}
use Rattle.ltm_loading.proofs.laws.counts_set_only.Goals as goal

pub returns : goal.returns
returns c = counts_set_only_holds
