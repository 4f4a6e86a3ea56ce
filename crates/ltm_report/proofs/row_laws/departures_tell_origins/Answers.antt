use Rattle.ltm_report.proofs.RowsTell.{departures_tell_origins_holds}
use Rattle.ltm_report.proofs.row_laws.departures_tell_origins.Goals as goal

pub returns : goal.returns
returns c = departures_tell_origins_holds
