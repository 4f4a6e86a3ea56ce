use Rattle.std.proofs.Common.{◌≡◌, ◌≤◌, ◌-◌, ◌+◌, ◌^◌, ℕ, [], get_or, vec_len}
use Rattle.ltm_splits.specs.Table.{rows_of_node}
use Rattle.ltm_splits.proofs.node_rows.NodeRows.make_room.Given as goal

abbrev pub invariant-room : goal.invariant-room
invariant-room l = record {
  lists : (d : ℕ) → get_or l.self-inside.pairs.items d [] ≡ get_or l.initial.self-inside.pairs.items d [];
  rows : (node : ℕ) → rows_of_node node l.self-inside.pairs.items ≡ rows_of_node node l.initial.self-inside.pairs.items;
  few : vec_len l.self-inside.pairs ≤ 2 ^ 32;
}

abbrev pub decreases-room : goal.decreases-room
decreases-room l = l.destination + 1 - vec_len l.self-inside.pairs
