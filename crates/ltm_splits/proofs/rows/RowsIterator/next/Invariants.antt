use Rattle.std.proofs.Common.{◌≡◌, ◌+◌, ◌*◌, ◌≤◌, ◌^◌, length}
use Rattle.ltm_splits.specs.Table.{rows_left}
use Rattle.ltm_splits.proofs.rows.RowsIterator.next.Given as goal

abbrev pub invariant-lists : goal.invariant-lists
invariant-lists l = record {
  left : rows_left l.self-inside.node.0 l.self-inside.destination l.self-inside.rows.now l.self-inside.next_destination l.self-inside.pairs.now l.self-inside.next_node l.self-inside.nodes.now
      ≡ rows_left l.initial.self-inside.node.0 l.initial.self-inside.destination l.initial.self-inside.rows.now l.initial.self-inside.next_destination l.initial.self-inside.pairs.now l.initial.self-inside.next_node l.initial.self-inside.nodes.now;
  destinations : l.self-inside.next_destination + length l.self-inside.pairs.now ≤ 2 ^ 32;
  nodes : l.self-inside.next_node + length l.self-inside.nodes.now ≤ 2 ^ 32;
}

abbrev pub decreases-lists : goal.decreases-lists
decreases-lists l = 4294967298 * length l.self-inside.nodes.now + length l.self-inside.pairs.now
