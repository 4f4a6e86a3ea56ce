use Rattle.ltm_loading.proofs.AddsUp.{adds_up_holds}
use Rattle.ltm_loading.proofs.laws.adds_up.Goals as goal

pub returns : goal.returns
returns c = adds_up_holds
