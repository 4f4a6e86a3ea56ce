use Rattle.std.proofs.Common.{◌≡◌, ◌<◌, ℕ, map, slice_index}
use Rattle.ltm_setting.specs.Setting.{setting_of}
use Rattle.ltm_flows.proofs.tables.write_free_times.Given as goal

abbrev pub invariant-loop-link : goal.invariant-loop-link
invariant-loop-link l = (k : ℕ) → k < l.link → slice_index (map (λ time. time.0) l.into) k ≡ (setting_of l.scenario).free_time k
