use Rattle.std.proofs.Common.{◌≡◌, length}
use Rattle.serde_json.specs.View.{items_view}
use Rattle.ltm_script.specs.Rows.{rows_of}
use Rattle.ltm_script.proofs.Named.{joined}
use Rattle.ltm_script.proofs.rows.read_rows.Given as goal

abbrev pub invariant-rows : goal.invariant-rows
invariant-rows l = joined l.rows.items (rows_of (items_view l.left)) ≡ rows_of (items_view l.values)

abbrev pub decreases-rows : goal.decreases-rows
decreases-rows l = length l.left
