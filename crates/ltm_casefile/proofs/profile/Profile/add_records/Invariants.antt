use Rattle.std.proofs.Common.{◌≡◌, ◌≤◌, ◌+◌, length}
use Rattle.ltm_casefile.specs.Profile.{slice_added}
use Rattle.ltm_casefile.specs.Rows.{rows_from}
use Rattle.ltm_casefile.specs.declared.faults.File.TheVariants as file
use Rattle.ltm_casefile.proofs.profile.Profile.add_records.Given as goal

abbrev pub invariant-rows : goal.invariant-rows
invariant-rows l = record {
  left : rows_from file.Profile (slice_added l.slots) l.number l.self l.records ≡ rows_from file.Profile (slice_added l.slots) 2 l.fn.self l.fn.records;
  few : l.number + length l.records ≤ 268435458;
}

abbrev pub decreases-rows : goal.decreases-rows
decreases-rows l = length l.records
