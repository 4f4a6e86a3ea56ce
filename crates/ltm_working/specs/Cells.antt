-- How many cells are changed.
use Rattle.std.specs.Prelude.{ℕ, ◌+◌, Bool, if◌then◌else◌}
use Rattle.ltm_units.specs.Sums.{sum_below}
use Rattle.ltm_loading.specs.Setting.{Setting}
use Rattle.ltm_loading.specs.Groups.{groups}

-- how many cells of a setting, each a group at a boundary, pass a test
abbrev pub count_cells : Setting → (ℕ → ℕ → Bool) → ℕ
count_cells s test = sum_below (s.slots + 1) (λ k. sum_below (groups s) (λ g. if test g k then 1 else 0))
