use Rattle.ltm_node.proofs.Tallies.{turns_pass}
use Rattle.ltm_node.proofs.tally.TurnsTally.passes.Goals as goal

pub returns : goal.returns
returns c = turns_pass
