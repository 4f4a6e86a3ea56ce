use Rattle.std.proofs.Common.{◌≡◌, ℕ, ◌<◌, slice_index}
use Rattle.ltm_curve.specs.Table.{counts_of}
use Rattle.ltm_loading.specs.Flows.{receiving}
use Rattle.ltm_setting.specs.Setting.{setting_of}
use Rattle.ltm_inputs.proofs.sending.put_supply.Given as goal

abbrev pub invariant-loop-out : goal.invariant-loop-out
invariant-loop-out g l =
    let s = setting_of l.scenario in
    (j : ℕ) → j < l.out → slice_index l.into j ≡ receiving s (counts_of l.curves) (s.out_link l.pair.node.0 j) l.pair.slot
