use Rattle.ltm_units.proofs.nested_split.shares_make_the_amount.Goals as goal
use Rattle.ltm_units.proofs.Splits.{shares_make_the_amount_holds}

pub returns : goal.returns
returns c = shares_make_the_amount_holds
