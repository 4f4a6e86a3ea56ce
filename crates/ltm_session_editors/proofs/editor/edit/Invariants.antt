use Rattle.std.proofs.Common.{◌≡◌, ◌++◌, length}
use Rattle.std.specs.Prelude.{All}
use Rattle.std.specs.Vec.Iter.{into_iter_items, into_iter_len}
use Rattle.ltm_scenario.specs.Edits.{HaveAmounts}
use Rattle.ltm_editors.specs.Seats.{seat_place, seat_seen}
use Rattle.ltm_session_editors.specs.Histories.{batches_by}
use Rattle.ltm_session_editors.proofs.editor.edit.Given as goal

abbrev pub invariant-loop-batch : goal.invariant-loop-batch
invariant-loop-batch g l = record {
  place : seat_place l.seat ≡ seat_place l.fn.seat;
  calls : batches_by (seat_place l.fn.seat).number (seat_seen l.seat) ++ into_iter_items l.batch-iterator ≡ batches_by (seat_place l.fn.seat).number (seat_seen l.fn.seat) ++ l.fn.script;
  amounts : All HaveAmounts (into_iter_items l.batch-iterator);
  count : into_iter_len l.batch-iterator ≡ length (into_iter_items l.batch-iterator);
}
