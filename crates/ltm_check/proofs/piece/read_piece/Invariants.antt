use Rattle.std.proofs.Common.{◌≡◌, ◌++◌, List, drop}
use Rattle.ltm_records.specs.Fields.{Fields}
use Rattle.ltm_records.specs.Left.{records_of}
use Rattle.ltm_setting.specs.Setting.{setting_of}
use Rattle.ltm_loading.specs.Shaped.{IsShaped}
use Rattle.ltm_check.specs.Pieces.{IsReadTo}
use Rattle.ltm_check.proofs.piece.read_piece.Given as goal

abbrev pub invariant-loop-index : goal.invariant-loop-index
invariant-loop-index l = record {
  shape : IsShaped (setting_of l.scenario) l.curves;
  read : (all rest : List Fields) → IsReadTo l.scenario all l.fn.curves l.fn.next → drop l.fn.next all ≡ records_of l.piece ++ rest → IsReadTo l.scenario all l.curves l.index × (drop l.index all ≡ l.records ++ rest);
}
