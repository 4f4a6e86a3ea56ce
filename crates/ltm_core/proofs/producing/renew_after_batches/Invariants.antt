use Rattle.std.proofs.Common.{take}
use Rattle.ltm_setting.specs.Setting.{setting_of}
use Rattle.ltm_core.specs.Producing.{batches_change, Renews}
use Rattle.ltm_core.proofs.producing.renew_after_batches.Given as goal

abbrev pub invariant-loop-batch : goal.invariant-loop-batch
invariant-loop-batch l = Renews (setting_of l.scenario) (batches_change l.scenario.network (take l.batch-index l.batches)) l.fn.shown l.shown
