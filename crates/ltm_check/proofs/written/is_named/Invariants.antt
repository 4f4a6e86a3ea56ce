use Rattle.std.proofs.Common.{◌≡◌, ◌<◌, ℕ, true}
use Rattle.ltm_units.specs.Words.{is_name}
use Rattle.ltm_scenario.specs.Network.{link_name, node_name}
use Rattle.ltm_check.proofs.written.is_named.Given as goal

abbrev pub invariant-loop-link : goal.invariant-loop-link
invariant-loop-link l = (link : ℕ) → link < l.link → is_name (link_name l.scenario.network link) ≡ true

abbrev pub invariant-loop-node : goal.invariant-loop-node
invariant-loop-node l = (node : ℕ) → node < l.node → is_name (node_name l.scenario.network node) ≡ true
