use Rattle.ltm_board.proofs.Leading.{lists_lead}
use Rattle.ltm_board.proofs.laws.lists_lead.Goals as goal

pub returns : goal.returns
returns c = lists_lead
