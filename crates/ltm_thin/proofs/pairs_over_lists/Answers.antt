use Rattle.ltm_thin.proofs.Listing.{pairs_over_lists_hold}
use Rattle.ltm_thin.proofs.pairs_over_lists.Goals as goal

pub returns : goal.returns
returns c = pairs_over_lists_hold
