use Rattle.ltm_command.proofs.Reading.{one_reading_holds}
use Rattle.ltm_command.proofs.words.one_reading.Goals as goal

pub returns : goal.returns
returns c = one_reading_holds
