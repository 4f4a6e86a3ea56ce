-- What a commit wakes and which cells it changes.
use Rattle.std.specs.Prelude.{◌≡◌, ℕ, ◌+◌, ◌||◌, List, Bool, false}
use Rattle.ltm_loading.specs.Setting.{Setting}
use Rattle.ltm_repair.specs.Desk.{Desk}
use Rattle.ltm_repair.specs.Moves.{Commits}
use Rattle.ltm_pairs.specs.Changes.{differs_at}
use Rattle.ltm_pairs.specs.Readers.{reads_commit}
use Rattle.ltm_working.specs.declared.table.Table.{Table}
use Rattle.ltm_working.specs.Pairs.{of_pairs, of_cells}
use Rattle.ltm_working.specs.Desks.{desk_at, changed_at}

-- the readers of a commit of pair (u, t), exactly
abbrev pub readers : Setting → Desk → Desk → ℕ → ℕ → ℕ → ℕ → Bool
readers s old new u t = of_pairs s false (reads_commit s old.counts new.counts u (t + 1))

-- the cells in which some count is another one now
abbrev pub rewritten : Setting → Desk → Desk → ℕ → ℕ → Bool
rewritten s old new = of_cells s (differs_at s old.counts new.counts)

-- a table after the commit of a pair with this row
pub record CommitsPair (s : Setting) (old : Table) (u t : ℕ) (row : List ℕ) (new : Table) : Type 0 where
  pub commits : Commits s (desk_at s old) u t row (readers s (desk_at s old) (desk_at s new) u t) (desk_at s new)
  pub cells : (g k : ℕ) → changed_at s new g k ≡ (changed_at s old g k || rewritten s (desk_at s old) (desk_at s new) g k)
