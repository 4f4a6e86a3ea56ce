use Rattle.ltm_thin.proofs.Listing.{listed_in_range_holds}
use Rattle.ltm_thin.proofs.listed_in_range.Goals as goal

pub returns : goal.returns
returns c = listed_in_range_holds
