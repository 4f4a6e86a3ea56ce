use Rattle.std.proofs.Common.{◌≡◌, ◌≤◌, ◌+◌, length}
use Rattle.ltm_casefile.specs.Matrix.{matrix_row_added}
use Rattle.ltm_casefile.specs.Rows.{rows_from}
use Rattle.ltm_casefile.specs.declared.faults.File.TheVariants as file
use Rattle.ltm_casefile.proofs.matrix.add_records.Given as goal

abbrev pub invariant-rows : goal.invariant-rows
invariant-rows l = record {
  left : rows_from file.Demand (matrix_row_added l.profile) l.number l.scenario l.records ≡ rows_from file.Demand (matrix_row_added l.profile) 2 l.fn.scenario l.fn.records;
  few : l.number + length l.records ≤ 268435458;
}

abbrev pub decreases-rows : goal.decreases-rows
decreases-rows l = length l.records
