use Rattle.ltm_repair.proofs.Work.{commits_differences}
use Rattle.ltm_repair.proofs.laws.commits_differences.Goals as goal

pub returns : goal.returns
returns c = commits_differences
