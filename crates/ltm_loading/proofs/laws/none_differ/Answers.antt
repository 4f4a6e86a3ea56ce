use Rattle.ltm_loading.proofs.DifferingLaws.{none_differ_holds}
use Rattle.ltm_loading.proofs.laws.none_differ.Goals as goal

pub returns : goal.returns
returns c = none_differ_holds
