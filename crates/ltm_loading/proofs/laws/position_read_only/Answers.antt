use Rattle.ltm_loading.proofs.ReadsSame.{position_read_only_holds}
use Rattle.ltm_loading.proofs.laws.position_read_only.Goals as goal

pub returns : goal.returns
returns c = position_read_only_holds
