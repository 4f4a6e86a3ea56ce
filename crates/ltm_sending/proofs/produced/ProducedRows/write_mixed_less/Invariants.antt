use Rattle.std.proofs.Common.{◌≡◌, ℕ, ◌<◌, ◌-◌, slice_index}
use Rattle.ltm_curve.specs.First.{entries, mixed}
use Rattle.ltm_curve.proofs.Mixing.{IsMixing}
use Rattle.ltm_setting.specs.Setting.{setting_of}
use Rattle.ltm_sending.proofs.produced.ProducedRows.write_mixed_less.Given as goal

abbrev pub invariant-loop-destination : goal.invariant-loop-destination
invariant-loop-destination l =
    IsMixing (entries ((setting_of l.self.scenario.now).destinations) ((setting_of l.self.scenario.now).produced l.self.node.0) l.slot) l.part l.rest l.whole l.destination
    × ((d : ℕ) → d < l.destination → slice_index l.into d ≡ mixed ((setting_of l.self.scenario.now).destinations) ((setting_of l.self.scenario.now).produced l.self.node.0) l.slot l.part d - slice_index l.less d)
