-- What is said of pairs of node and slot, and of cells, and nothing of what is none.
use Rattle.std.specs.Prelude.{ℕ, ◌&&◌, Bool, nat_le, nat_lt, if◌then◌else◌}
use Rattle.ltm_loading.specs.Setting.{Setting}
use Rattle.ltm_loading.specs.Groups.{groups}

-- what is said of a pair, and something else of what is no pair
abbrev pub of_pairs : {A : Type 0} → Setting → A → (ℕ → ℕ → A) → ℕ → ℕ → A
of_pairs s none f u t = if nat_lt u s.nodes && nat_lt t s.slots then f u t else none

-- a test of cells, each a group at a boundary; what is no cell does not pass it
abbrev pub of_cells : Setting → (ℕ → ℕ → Bool) → ℕ → ℕ → Bool
of_cells s f g k = (nat_lt g (groups s) && nat_le k s.slots) && f g k
