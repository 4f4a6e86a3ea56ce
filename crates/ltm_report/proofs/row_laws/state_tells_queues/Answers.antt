use Rattle.ltm_report.proofs.RowsTell.{state_tells_queues_holds}
use Rattle.ltm_report.proofs.row_laws.state_tells_queues.Goals as goal

pub returns : goal.returns
returns c = state_tells_queues_holds
