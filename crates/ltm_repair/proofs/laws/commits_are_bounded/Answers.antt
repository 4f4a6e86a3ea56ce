use Rattle.ltm_repair.proofs.Work.{commits_are_bounded}
use Rattle.ltm_repair.proofs.laws.commits_are_bounded.Goals as goal

pub returns : goal.returns
returns c = commits_are_bounded
