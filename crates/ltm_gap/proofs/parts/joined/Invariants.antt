use Rattle.ltm_setting.specs.Setting.{setting_of}
use Rattle.ltm_gap.specs.Parts.{AreJoined}
use Rattle.ltm_gap.proofs.parts.joined.Given as goal

abbrev pub invariant-loop-part : goal.invariant-loop-part
invariant-loop-part l = AreJoined (setting_of l.scenario) l.loading l.owners l.part l.sums.items
