use Rattle.std.proofs.Common.{arith}
use Rattle.ltm_scenario.proofs.parts.Parts.restore_pair.Goals as goal

pub put_back_pair-requires-clause-few : goal.put_back_pair-requires-clause-few
put_back_pair-requires-clause-few c = omega (arith, c.requires.can.fits.2, c.requires.parts.splits_most)
