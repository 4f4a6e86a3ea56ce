use Rattle.ltm_loading.proofs.NodeGroups.{groups_are_set_holds}
use Rattle.ltm_loading.proofs.laws.groups_are_set.Goals as goal

pub returns : goal.returns
returns c = groups_are_set_holds
