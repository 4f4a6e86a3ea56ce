use Rattle.ltm_units.proofs.nested_split.whole_splits.Goals as goal
use Rattle.ltm_units.proofs.Splits.{whole_splits_holds}

pub returns : goal.returns
returns c = whole_splits_holds
