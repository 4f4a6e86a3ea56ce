use Rattle.ltm_loading.proofs.Setters.{next_slot_holds}
use Rattle.ltm_loading.proofs.laws.next_slot.Goals as goal

pub returns : goal.returns
returns c = next_slot_holds
