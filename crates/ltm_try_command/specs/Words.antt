-- The two numbers of a trial, as words of a command line.
use Rattle.std.specs.Prelude.{ℕ, nat_le, List, Option, Some, None, if◌then◌else◌}
use Rattle.ltm_units.specs.Numbers.{number_told}

-- where a trial starts: 1 to 20 digits with a value below 2^64
abbrev pub start_of : List ℕ → Option ℕ
start_of = number_told 20 18446744073709551615

abbrev pub if_at_least : ℕ → Option ℕ → Option ℕ
if_at_least least (Some number) = if nat_le least number then Some number else None
if_at_least least None = None

-- how many nodes it has: 1 to 3 digits with a value of 4 to 400
abbrev pub nodes_of : List ℕ → Option ℕ
nodes_of text = if_at_least 4 (number_told 3 400 text)
