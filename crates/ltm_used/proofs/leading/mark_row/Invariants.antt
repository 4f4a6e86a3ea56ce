use Rattle.ltm_setting.specs.Setting.{setting_of}
use Rattle.ltm_used.proofs.Marking.{MarksTo}
use Rattle.ltm_used.proofs.leading.mark_row.Given as goal

abbrev pub invariant-loop-place : goal.invariant-loop-place
invariant-loop-place l = MarksTo (setting_of l.scenario) l.initial.goes l.goes (l.fn.key, l.weights) l.place
