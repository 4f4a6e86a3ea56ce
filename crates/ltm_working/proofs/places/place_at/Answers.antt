use Rattle.ltm_working.proofs.Placings.{stands_left}
use Rattle.ltm_working.proofs.places.place_at.Goals as goal

pub returns-else-not-stands_at : goal.returns-else-not-stands_at
returns-else-not-stands_at c = stands_left c.args.index.now c.args.link.0 c.args.slot c.args.boundary (c.stands_at.ensures.0 c.if-not-stands_at.false)
