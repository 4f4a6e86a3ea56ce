use Rattle.ltm_loading.proofs.ReadsSame.{setting_read_only_holds}
use Rattle.ltm_loading.proofs.laws.setting_read_only.Goals as goal

pub returns : goal.returns
returns c = setting_read_only_holds
