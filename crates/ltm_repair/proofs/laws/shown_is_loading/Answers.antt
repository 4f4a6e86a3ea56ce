use Rattle.ltm_repair.proofs.Runs.{shown_is_loading}
use Rattle.ltm_repair.proofs.laws.shown_is_loading.Goals as goal

pub returns : goal.returns
returns c = shown_is_loading
