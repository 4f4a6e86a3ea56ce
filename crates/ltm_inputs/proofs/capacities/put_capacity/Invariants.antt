use Rattle.std.proofs.Common.{◌≡◌, ℕ, ◌<◌, slice_index}
use Rattle.ltm_setting.specs.Setting.{setting_of}
use Rattle.ltm_inputs.proofs.capacities.put_capacity.Given as goal

abbrev pub invariant-loop-arm : goal.invariant-loop-arm
invariant-loop-arm l =
    let s = setting_of l.scenario in
    (i : ℕ) → i < l.arm → slice_index l.into i ≡ s.capacity (s.in_link l.pair.node.0 i) l.pair.slot
