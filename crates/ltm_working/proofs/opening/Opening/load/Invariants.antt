use Rattle.ltm_setting.specs.Setting.{setting_of}
use Rattle.ltm_working.specs.Openings.{IsOpenTo}
use Rattle.ltm_working.proofs.opening.Opening.load.Given as goal

abbrev pub invariant-loop-slot : goal.invariant-loop-slot
invariant-loop-slot l = IsOpenTo (setting_of l.scenario) l.opening l.slot
