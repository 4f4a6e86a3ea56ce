use Rattle.ltm_working.proofs.Placings.{stands_placed}
use Rattle.ltm_working.proofs.places.put_at.Goals as goal

pub returns : goal.returns
returns c = stands_placed c.args.index.now c.place.new.self c.args.link.0 c.args.slot c.args.boundary c.place.ensures
