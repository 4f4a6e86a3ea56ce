use Rattle.ltm_loading.proofs.Holds.{within_exit_holds}
use Rattle.ltm_loading.proofs.laws.within_exit.Goals as goal

pub returns : goal.returns
returns c = within_exit_holds
