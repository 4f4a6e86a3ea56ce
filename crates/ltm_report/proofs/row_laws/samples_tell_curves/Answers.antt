use Rattle.ltm_report.proofs.RowsTell.{samples_tell_curves_holds}
use Rattle.ltm_report.proofs.row_laws.samples_tell_curves.Goals as goal

pub returns : goal.returns
returns c = samples_tell_curves_holds
