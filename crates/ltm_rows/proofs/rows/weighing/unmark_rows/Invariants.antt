use Rattle.std.specs.Prelude.{◌≡◌, ◌≤◌, ◌⊎◌}
use Rattle.ltm_rows.proofs.Unmarking.{Unmarks}
use Rattle.ltm_rows.proofs.rows.weighing.unmark_rows.Given as goal

abbrev pub invariant-loop-row : goal.invariant-loop-row
invariant-loop-row l = Unmarks l.fn.marks l.marks l.place l.from l.row × ((l.row ≡ l.from) ⊎ (l.row ≤ l.to))
