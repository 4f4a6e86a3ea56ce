use Rattle.ltm_loading.proofs.Holds.{first_in_first_out_holds}
use Rattle.ltm_loading.proofs.laws.first_in_first_out.Goals as goal

pub returns : goal.returns
returns c = first_in_first_out_holds
