-- What is found of each link, as lists.
use Rattle.std.specs.Prelude.{ℕ, ◌+◌, ◌-◌, ◌*◌, List, length, filter, nat_lt, slice_index, slice_range}
use Rattle.std.specs.List.{range_with_len}
use Rattle.ltm_loading.specs.Setting.{Setting}
use Rattle.ltm_used.specs.declared.found.Found.{Found}
use Rattle.ltm_used.specs.declared.used.Used.{Used}

-- of so many numbers from one on those that are found, in order, each less that one
abbrev pub found_from : Found → ℕ → ℕ → List ℕ
found_from f first many = filter (λ k. nat_lt 0 (slice_index f.marks.items (first + k))) (range_with_len 0 many)

-- the destinations that are found of a link, in order
abbrev pub found_on : Setting → Found → ℕ → List ℕ
found_on s f l = found_from f (l * s.destinations) s.destinations

-- for how many links there are lists
abbrev pub links_of : Used → ℕ
links_of used = length used.starts.items - 1

-- the destinations that can be on a link, in order
abbrev pub list_of : Used → ℕ → List ℕ
list_of used l = slice_range used.destinations.items (slice_index used.starts.items l) (slice_index used.starts.items (l + 1))
