use Rattle.std.proofs.Common.{◌≡◌, ℕ, ◌<◌, ◌≤◌, ◌++◌, [], All, length}
use Rattle.std.specs.Prelude.{MatchOption, None}
use Rattle.ltm_splits.specs.Entries.{start_at}
use Rattle.ltm_splits.specs.Weights.{AreWeights}
use Rattle.ltm_scenario.specs.Edits.{rows_checked, entries_said}
use Rattle.ltm_scenario.specs.Parts.{scenario_in}
use Rattle.ltm_scenario.proofs.parts.Parts.rows_said.Given as goal

abbrev pub invariant-rows : goal.invariant-rows
invariant-rows l = record {
  checked : rows_checked (scenario_in l.self) l.node.0 l.destination None l.rows ≡ rows_checked (scenario_in l.self) l.node.0 l.destination l.before l.left;
  said : entries_said (scenario_in l.self) l.node.0 l.rows ≡ l.said ++ entries_said (scenario_in l.self) l.node.0 l.left;
  begun : MatchOption l.before (l.said ≡ []) (λ slot. (i : ℕ) → i < length l.said → start_at l.said i ≤ slot);
  weights : All (λ row. AreWeights row.1) l.said;
}

abbrev pub decreases-rows : goal.decreases-rows
decreases-rows l = length l.left
