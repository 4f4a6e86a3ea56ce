use Rattle.std.proofs.Common.{◌≡◌}
use Rattle.ltm_turn.specs.Passes.{turn_id, editor_turn, editor_workers}
use Rattle.test_share.proofs.turns.count_as_editor.Given as goal

abbrev pub invariant-loop : goal.invariant-loop
invariant-loop g l = (editor_turn l.pass ≡ turn_id l.turn) × (editor_workers l.pass ≡ editor_workers l.fn.pass)
