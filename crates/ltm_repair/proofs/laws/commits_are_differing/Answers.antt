use Rattle.ltm_repair.proofs.Work.{commits_are_differing}
use Rattle.ltm_repair.proofs.laws.commits_are_differing.Goals as goal

pub returns : goal.returns
returns c = commits_are_differing
