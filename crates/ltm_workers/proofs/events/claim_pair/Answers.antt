use Rattle.ltm_workers.proofs.Editing.{stays_one, claim_one}
use Rattle.ltm_workers.proofs.events.claim_pair.Goals as goal

pub returns-then-stopped-clause-one_event : goal.returns-then-stopped-clause-one_event
returns-then-stopped-clause-one_event c = stays_one c.args.core.now

pub returns-clause-one_event : goal.returns-clause-one_event
returns-clause-one_event c = claim_one c.calls_are_events.ensures _ _ c.claim.result c.claim.ensures.answer c.claim.ensures.keeps c.claim.ensures.adds
