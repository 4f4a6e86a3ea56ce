use Rattle.ltm_loading.proofs.NodeGroups.{groups_by_row_holds}
use Rattle.ltm_loading.proofs.laws.groups_by_row.Goals as goal

pub returns : goal.returns
returns c = groups_by_row_holds
