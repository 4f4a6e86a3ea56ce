use Rattle.std.proofs.Common.{◌≡◌, ℕ, ◌<◌, slice_index}
use Rattle.ltm_loading.specs.Pairs.{arm_capacity}
use Rattle.ltm_setting.specs.Setting.{setting_of}
use Rattle.ltm_lean_node.proofs.row.put_capacities.Given as goal

abbrev pub invariant-loop-arm : goal.invariant-loop-arm
invariant-loop-arm l = (i : ℕ) → i < l.arm → slice_index l.into i ≡ arm_capacity (setting_of l.scenario) l.pair.node.0 l.pair.slot i
