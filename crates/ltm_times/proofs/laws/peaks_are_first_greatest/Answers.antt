use Rattle.ltm_times.proofs.Peaks.{peaks_hold}
use Rattle.ltm_times.proofs.laws.peaks_are_first_greatest.Goals as goal

pub returns : goal.returns
returns c = peaks_hold
