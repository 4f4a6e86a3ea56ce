use Rattle.ltm_working.proofs.Batching.{tables_fit}
use Rattle.ltm_working.proofs.laws.tables_fit.Goals as goal

pub returns : goal.returns
returns c = tables_fit
