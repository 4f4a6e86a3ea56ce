-- How many edits a batch has.
use Rattle.std.specs.Prelude.{ℕ, ◌&&◌, Bool, nat_le}

abbrev pub is_count : ℕ → Bool
is_count count = nat_le 1 count && nat_le count 32
