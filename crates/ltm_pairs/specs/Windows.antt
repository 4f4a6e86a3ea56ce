-- Which slots read a boundary some time later.
use Rattle.std.specs.Prelude.{ℕ, ◌+◌, ◌*◌, ◌&&◌, Bool, nat_lt}

-- the moment so long before the end of the slot is less than a slot away from the boundary
abbrev pub reads_ago : ℕ → ℕ → ℕ → ℕ → Bool
reads_ago step time slot k = nat_lt (k * step + time) ((slot + 2) * step) && nat_lt ((slot + 1) * step) (time + (k + 1) * step)
