use Rattle.std.proofs.Common.{◌≡◌, ℕ, ◌<◌, ◌-◌, slice_index}
use Rattle.ltm_setting.specs.Setting.{setting_of}
use Rattle.ltm_sending.proofs.produced.ProducedRows.write_less.Given as goal

abbrev pub invariant-loop-destination : goal.invariant-loop-destination
invariant-loop-destination l =
    (d : ℕ) → d < l.destination → slice_index l.into d ≡ (setting_of l.self.scenario.now).produced l.self.node.0 d l.boundary - slice_index l.less d
