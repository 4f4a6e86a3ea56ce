use Rattle.ltm_existence.proofs.Rounds.{there_are_shares_holds}
use Rattle.ltm_existence.proofs.laws.there_are_shares.Goals as goal

pub returns : goal.returns
returns c = there_are_shares_holds
