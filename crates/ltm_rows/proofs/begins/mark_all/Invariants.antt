use Rattle.std.proofs.Common.{◌≡◌, ◌||◌, ℕ, ◌<◌, All, length}
use Rattle.ltm_marks.specs.Marks.{width_of, rows_of, is_marked}
use Rattle.ltm_scenario.specs.IsScenario.{IsSplitOf}
use Rattle.ltm_rows.specs.Begins.{row_begins}
use Rattle.ltm_rows.proofs.begins.mark_all.Given as goal

abbrev pub invariant-rows : goal.invariant-rows
invariant-rows l = record {
  width : width_of l.marks ≡ width_of l.fn.marks;
  slots : rows_of l.marks ≡ rows_of l.fn.marks;
  all : All (IsSplitOf l.scenario) l.rows;
  seen : (u t : ℕ) → u < width_of l.fn.marks → t < rows_of l.fn.marks
      → (row_begins l.rows u t || is_marked l.marks u t) ≡ (row_begins l.scenario.splits u t || is_marked l.fn.marks u t);
}

abbrev pub decreases-rows : goal.decreases-rows
decreases-rows l = length l.rows
