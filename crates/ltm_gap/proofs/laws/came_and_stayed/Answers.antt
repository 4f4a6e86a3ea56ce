use Rattle.ltm_gap.proofs.Staying.{came_and_stayed}
use Rattle.ltm_gap.proofs.laws.came_and_stayed.Goals as goal

pub returns : goal.returns
returns c = came_and_stayed
