use Rattle.std.proofs.Common.{◌+◌}
use Rattle.ltm_curve.specs.Table.{counts_of}
use Rattle.ltm_setting.specs.Setting.{setting_of}
use Rattle.ltm_working.specs.Counted.{counts_by_form}
use Rattle.ltm_working.specs.Renewed.{RenewsTails}
use Rattle.ltm_working.proofs.table.Table.renew_tails.Given as goal

abbrev pub invariant-loop-place : goal.invariant-loop-place
invariant-loop-place l = RenewsTails (setting_of l.scenario) l.pair.node.0 (l.pair.slot + 1)
    (counts_by_form l.given (setting_of l.scenario) (counts_of l.fn.self.curves) l.pair.node.0 l.pair.slot l.outputs) l.place l.fn.self l.any l.self
