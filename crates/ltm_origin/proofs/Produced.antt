-- What a node has produced of the destination at each place of a list.
use Rattle.std.proofs.Common.{ℕ, List, slice_index}
use Rattle.ltm_scenario.specs.Data.{ScenarioData}
use Rattle.ltm_setting.specs.Setting.{setting_of}

abbrev pub listed : ScenarioData → ℕ → List ℕ → ℕ → ℕ → ℕ
listed s node list = λ place. λ boundary. (setting_of s).produced node (slice_index list place) boundary
