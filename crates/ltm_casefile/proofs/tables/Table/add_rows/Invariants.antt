use Rattle.std.proofs.Common.{◌≡◌, ◌≤◌, ◌+◌, [], length}
use Rattle.ltm_casefile.specs.declared.tables.Table.TheVariants as table
use Rattle.ltm_casefile.specs.Tables.{rows_added}
use Rattle.ltm_casefile.proofs.tables.Table.add_rows.Given as goal

abbrev pub invariant-rows : goal.invariant-rows
invariant-rows l = record {
  left : rows_added l.self l.number l.scenario l.records ≡ rows_added l.self 2 l.initial.scenario l.initial.records;
  splits : l.self ≡ table.Links → l.scenario.splits ≡ [];
  few : l.number + length l.records ≤ 268435458;
}

abbrev pub decreases-rows : goal.decreases-rows
decreases-rows l = length l.records
