use Rattle.std.proofs.Common.{◌≡◌, ℕ, ◌+◌, ◌*◌, ◌<◌, slice_index}
use Rattle.ltm_setting.specs.Setting.{setting_of}
use Rattle.ltm_lean_node.proofs.weights.put_weights.Given as goal

abbrev pub invariant-loop-k : goal.invariant-loop-k
invariant-loop-k l = record {
  end : l.place ≡ l.k * l.fn.outs;
  done : (k j : ℕ) → k < l.k → j < l.fn.outs → slice_index l.into (k * l.fn.outs + j) ≡ (setting_of l.scenario).weight l.pair.node.0 (slice_index l.list k) l.pair.slot j;
}
