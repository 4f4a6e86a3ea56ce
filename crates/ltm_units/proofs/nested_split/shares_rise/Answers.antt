use Rattle.ltm_units.proofs.nested_split.shares_rise.Goals as goal
use Rattle.ltm_units.proofs.Splits.{shares_rise_holds}

pub returns : goal.returns
returns c = shares_rise_holds
