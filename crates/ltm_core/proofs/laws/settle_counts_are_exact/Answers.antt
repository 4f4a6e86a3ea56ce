use Rattle.ltm_core.proofs.Settlings.{settle_counts_are_exact}
use Rattle.ltm_core.proofs.laws.settle_counts_are_exact.Goals as goal

pub returns : goal.returns
returns c = settle_counts_are_exact
