use Rattle.ltm_setting.specs.Setting.{setting_of}
use Rattle.ltm_working.specs.Openings.{IsOpenAt}
use Rattle.ltm_working.proofs.opening.Opening.open_slot.Given as goal

abbrev pub invariant-loop-node : goal.invariant-loop-node
invariant-loop-node l = IsOpenAt (setting_of l.scenario) l.self l.slot l.node
