use Rattle.ltm_past.proofs.Past.{longer_begins}
use Rattle.ltm_past.proofs.laws.longer_begins_as_shorter.Goals as goal

pub returns : goal.returns
returns c = longer_begins c.past_stays.ensures
