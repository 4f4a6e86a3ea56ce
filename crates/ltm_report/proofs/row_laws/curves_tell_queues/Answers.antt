use Rattle.ltm_report.proofs.RowsTell.{curves_tell_queues_holds}
use Rattle.ltm_report.proofs.row_laws.curves_tell_queues.Goals as goal

pub returns : goal.returns
returns c = curves_tell_queues_holds
