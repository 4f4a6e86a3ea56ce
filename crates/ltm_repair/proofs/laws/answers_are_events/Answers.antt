use Rattle.ltm_repair.proofs.Making.{answers_are_events}
use Rattle.ltm_repair.proofs.laws.answers_are_events.Goals as goal

pub returns : goal.returns
returns c = answers_are_events
