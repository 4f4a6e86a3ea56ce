-- A pair is claimed and committed in one call.
use Rattle.std.specs.Prelude.{◌≡◌, ℕ, List}
use Rattle.ltm_loading.specs.Setting.{Setting}
use Rattle.ltm_repair.specs.Answers.{Got, NotYet, Rest as NoneLeft}
use Rattle.ltm_working.specs.declared.found.Found.{Found}
use Rattle.ltm_working.specs.declared.found.Found.TheVariants.{Work, Wait, Rest}
use Rattle.ltm_working.specs.declared.table.Table.{Table}
use Rattle.ltm_working.specs.Desks.{desk_at, changed_at}
use Rattle.ltm_working.specs.Ready.{IsReady}
use Rattle.ltm_working.specs.Searching.{AnswersSearch}
use Rattle.ltm_working.specs.Committing.{CommitsPair}

-- a claim of the pair leads to a table between, which no call leaves, and its commit from there to the new one
pub record RecomputesInTable (s : Setting) (old : Table) (u t : ℕ) (row : List ℕ) (new : Table) : Type 0 where
  pub between : Table
  pub ready : IsReady s between
  pub claims : (ticket : ℕ) → AnswersSearch s (desk_at s old) (Got u t ticket row) (desk_at s between)
  pub same : changed_at s between ≡ changed_at s old
  pub commits : CommitsPair s between u t row new

-- or there is no pair yet, or none is left
abbrev pub Recomputes : Setting → Table → Found → Table → Type 0
Recomputes s old (Work pair) new = (row : List ℕ) × RecomputesInTable s old pair.node.0 pair.slot row new
Recomputes s old Wait new = AnswersSearch s (desk_at s old) NotYet (desk_at s new) × (changed_at s new ≡ changed_at s old)
Recomputes s old Rest new = AnswersSearch s (desk_at s old) NoneLeft (desk_at s new) × (changed_at s new ≡ changed_at s old)
