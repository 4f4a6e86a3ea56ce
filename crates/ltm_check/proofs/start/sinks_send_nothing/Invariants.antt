use Rattle.std.proofs.Common.{◌≡◌, ◌<◌, ◌≤◌, ℕ}
use Rattle.ltm_curve.specs.Table.{counts_of}
use Rattle.ltm_loading.specs.Groups.{dep_of}
use Rattle.ltm_setting.specs.Setting.{setting_of}
use Rattle.ltm_check.proofs.start.sinks_send_nothing.Given as goal

abbrev pub invariant-loop-node : goal.invariant-loop-node
invariant-loop-node l = (u d k : ℕ) → u < l.node → (setting_of l.scenario).outs u ≡ 0 → d < (setting_of l.scenario).destinations → k ≤ (setting_of l.scenario).slots
    → counts_of l.curves (dep_of (setting_of l.scenario) u) d k ≡ 0
