use Rattle.ltm_past.proofs.Past.{reports_stay}
use Rattle.ltm_past.proofs.laws.reports_stay.Goals as goal

pub returns : goal.returns
returns c = reports_stay c.batch_touches_readers.ensures c.past_stays.ensures
