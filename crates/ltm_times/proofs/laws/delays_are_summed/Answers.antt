use Rattle.ltm_times.proofs.SpentSo.{delays_are_summed_holds}
use Rattle.ltm_times.proofs.laws.delays_are_summed.Goals as goal

pub returns : goal.returns
returns c = delays_are_summed_holds c.left_was_produced.ensures c.adds_up.ensures
