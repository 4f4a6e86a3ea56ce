use Rattle.std.proofs.Common.{◌≡◌, ◌+◌, drop}
use Rattle.serde_json.specs.View.{items_view}
use Rattle.ltm_scenario.specs.Edits.{HaveAmounts}
use Rattle.ltm_script.specs.Edits.{edits_from}
use Rattle.ltm_script.proofs.Placed.{joined}
use Rattle.ltm_script.proofs.edits.read_edits.Given as goal

abbrev pub invariant-loop-value : goal.invariant-loop-value
invariant-loop-value l = (l.place ≡ l.value-index + 1) × HaveAmounts l.edits.items
    × (joined l.edits.items (edits_from l.place (items_view (drop l.value-index l.values))) ≡ edits_from 1 (items_view l.values))
