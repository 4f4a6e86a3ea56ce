use Rattle.ltm_report.proofs.RowsTell.{totals_tell_departures_holds}
use Rattle.ltm_report.proofs.row_laws.totals_tell_departures.Goals as goal

pub returns : goal.returns
returns c = totals_tell_departures_holds
