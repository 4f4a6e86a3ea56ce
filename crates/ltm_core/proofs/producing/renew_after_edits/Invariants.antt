use Rattle.std.proofs.Common.{take}
use Rattle.ltm_setting.specs.Setting.{setting_of}
use Rattle.ltm_core.specs.Producing.{edits_change, Renews}
use Rattle.ltm_core.proofs.producing.renew_after_edits.Given as goal

abbrev pub invariant-loop-edit : goal.invariant-loop-edit
invariant-loop-edit l = Renews (setting_of l.scenario) (edits_change l.scenario.network (take l.edit-index l.edits)) l.fn.shown l.shown
