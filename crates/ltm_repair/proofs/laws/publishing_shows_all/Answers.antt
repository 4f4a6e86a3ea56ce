use Rattle.ltm_repair.proofs.Runs.{publishing_shows_all}
use Rattle.ltm_repair.proofs.laws.publishing_shows_all.Goals as goal

pub returns : goal.returns
returns c = publishing_shows_all
