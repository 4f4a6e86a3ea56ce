-- How large tables of this crate may be.
use Rattle.std.specs.Prelude.{ℕ, ◌+◌}
use Rattle.ltm_units.specs.Bounds.{most_slots}

-- the greatest room: slots in whole groups of 16
abbrev pub most_room : ℕ
most_room = most_slots + 15
