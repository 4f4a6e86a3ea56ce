use Rattle.std.proofs.Common.{◌≡◌, ◌≤◌, ◌-◌, ◌+◌, ◌^◌, ℕ, [], get_or, vec_len}
use Rattle.ltm_splits.specs.Table.{rows_of_all}
use Rattle.ltm_splits.proofs.node_table.make_node.Given as goal

abbrev pub invariant-room : goal.invariant-room
invariant-room l = record {
  lists : (n : ℕ) → get_or l.nodes.items n [] ≡ get_or l.initial.nodes.items n [];
  rows : rows_of_all l.nodes.items ≡ rows_of_all l.initial.nodes.items;
  few : vec_len l.nodes ≤ 2 ^ 32;
}

abbrev pub decreases-room : goal.decreases-room
decreases-room l = l.node.0 + 1 - vec_len l.nodes
