use Rattle.ltm_loading.proofs.AddsUp.{left_has_entered_holds}
use Rattle.ltm_loading.proofs.laws.left_has_entered.Goals as goal

pub returns : goal.returns
returns c = left_has_entered_holds
