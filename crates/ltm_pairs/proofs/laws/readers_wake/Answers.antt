use Rattle.ltm_pairs.proofs.Waking.{readers_wake, readers_keep_positions}
use Rattle.ltm_pairs.proofs.laws.readers_wake.Goals as goal

pub returns : goal.returns
returns c = record { wake = readers_wake c.readers_are_all.ensures; positions = readers_keep_positions c.positions_stay.ensures }
