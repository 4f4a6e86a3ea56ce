-- How large tables of this crate may be.
use Rattle.std.specs.Prelude.{ℕ, ◌*◌}
use Rattle.ltm_units.specs.Bounds.{most_nodes, widest_row}

-- the rows of all nodes in one slot: as many nodes as there may be, each of the widest row
abbrev pub widest_slot : ℕ
widest_slot = most_nodes * widest_row
