use Rattle.std.proofs.Common.{◌≡◌, ◌↔◌, length}
use Rattle.ltm_scenario.proofs.same.same_rows.Given as goal

abbrev pub invariant-rows : goal.invariant-rows
invariant-rows l = (l.a ≡ l.b) ↔ (l.left ≡ l.right)

abbrev pub decreases-rows : goal.decreases-rows
decreases-rows l = length l.left
