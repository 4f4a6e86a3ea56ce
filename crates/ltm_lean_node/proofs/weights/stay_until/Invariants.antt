use Rattle.std.proofs.Common.{◌≡◌, ℕ, ◌<◌, ◌≤◌, slice_index}
use Rattle.ltm_setting.specs.Setting.{setting_of}
use Rattle.ltm_lean_node.proofs.weights.stay_until.Given as goal

abbrev pub invariant-loop-k : goal.invariant-loop-k
invariant-loop-k l = record {
  later : l.pair.slot < l.until;
  stay : (t k j : ℕ) → l.pair.slot ≤ t → t < l.until → k < l.k
      → (setting_of l.scenario).weight l.pair.node.0 (slice_index l.list k) t j ≡ (setting_of l.scenario).weight l.pair.node.0 (slice_index l.list k) l.pair.slot j;
}
