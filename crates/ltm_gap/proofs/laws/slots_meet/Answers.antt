use Rattle.ltm_gap.proofs.Meeting.{slots_meet}
use Rattle.ltm_gap.proofs.laws.slots_meet.Goals as goal

pub returns : goal.returns
returns c = slots_meet c.within_produced.ensures
