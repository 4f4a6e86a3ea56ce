use Rattle.ltm_past.proofs.Past.{past_stays}
use Rattle.ltm_past.proofs.laws.past_stays.Goals as goal

pub returns : goal.returns
returns c = past_stays c.scenarios_are_settings.ensures c.batch_touches_readers.ensures c.one_front.ensures
