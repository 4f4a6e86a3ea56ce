use Rattle.ltm_core.proofs.Running.{calls_are_events}
use Rattle.ltm_core.proofs.laws.calls_are_events.Goals as goal

pub returns : goal.returns
returns c = calls_are_events c.answers_are_events.ensures
