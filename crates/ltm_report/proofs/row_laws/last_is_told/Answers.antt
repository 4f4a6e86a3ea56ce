use Rattle.ltm_report.proofs.RowsTell.{last_is_told_holds}
use Rattle.ltm_report.proofs.row_laws.last_is_told.Goals as goal

pub returns : goal.returns
returns c = last_is_told_holds
