use Rattle.ltm_report.proofs.RowsTell.{delays_tell_delay_holds}
use Rattle.ltm_report.proofs.row_laws.delays_tell_delay.Goals as goal

pub returns : goal.returns
returns c = delays_tell_delay_holds
