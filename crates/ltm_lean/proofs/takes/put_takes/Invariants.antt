use Rattle.std.proofs.Common.{◌≡◌, ℕ, ◌<◌, ◌≤◌, slice_index}
use Rattle.ltm_curve.specs.Counts.{Counts}
use Rattle.ltm_loading.specs.Flows.{receiving}
use Rattle.ltm_setting.specs.Setting.{setting_of}
use Rattle.ltm_units.specs.Bounds.{most_in_slot}
use Rattle.ltm_lean.specs.Nodes.{IsFrozen}
use Rattle.ltm_lean.proofs.takes.put_takes.Given as goal

abbrev pub invariant-loop-j : goal.invariant-loop-j
invariant-loop-j l = record {
  small : (j : ℕ) → j < l.j → slice_index l.into j ≤ most_in_slot;
  taken : (c : Counts) → IsFrozen (setting_of l.scenario) c l.slot l.tables → (j : ℕ) → j < l.j → slice_index l.into j ≡ receiving (setting_of l.scenario) c ((setting_of l.scenario).out_link l.node j) l.slot;
}
