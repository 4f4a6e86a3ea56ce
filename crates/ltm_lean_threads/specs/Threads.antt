-- How many threads pay.
use Rattle.std.specs.Prelude.{ℕ, if◌then◌else◌, nat_lt, min, max, length}
use Rattle.ltm_units.specs.Sums.{sum_below}
use Rattle.ltm_used.specs.Lists.{links_of, list_of}
use Rattle.ltm_lean.specs.declared.tables.Tables.{Tables}

-- never more than these
abbrev pub most_threads : ℕ
most_threads = 16

-- from so many destinations on all links on, each counted on each link
abbrev pub fewest_entries : ℕ
fewest_entries = 200000

abbrev pub entries_of : Tables → ℕ
entries_of x = sum_below (links_of x.links) (λ l. length (list_of x.links l))

-- one where few destinations can be on the links, and else those that are at hand
abbrev pub threads_that_pay : ℕ → ℕ → ℕ
threads_that_pay entries most = if nat_lt entries fewest_entries then 1 else max 1 (min most most_threads)
