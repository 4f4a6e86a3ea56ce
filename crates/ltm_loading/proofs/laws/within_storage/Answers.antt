use Rattle.ltm_loading.proofs.Holds.{within_storage_holds}
use Rattle.ltm_loading.proofs.laws.within_storage.Goals as goal

pub returns : goal.returns
returns c = within_storage_holds
