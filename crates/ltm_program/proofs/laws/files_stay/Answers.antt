use Rattle.ltm_program.proofs.Lawful.{files_stay_holds}
use Rattle.ltm_program.proofs.laws.files_stay.Goals as goal

pub returns : goal.returns
returns c = files_stay_holds
