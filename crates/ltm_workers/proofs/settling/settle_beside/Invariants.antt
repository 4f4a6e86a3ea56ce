use Rattle.std.proofs.Common.{◌≡◌}
use Rattle.ltm_turn.specs.Passes.{turn_id, editor_turn, editor_list, editor_workers}
use Rattle.ltm_workers.proofs.settling.settle_beside.Given as goal

abbrev pub invariant-loop : goal.invariant-loop
invariant-loop g l =
    (goal.iterator-loop g).can_next l.iterator' × (goal.iterator-loop g).is_finite l.iterator' × (editor_turn l.editor ≡ turn_id l.turn)
    × (editor_workers l.editor ≡ editor_workers l.fn.editor) × (editor_list l.editor ≡ editor_list l.fn.editor)
