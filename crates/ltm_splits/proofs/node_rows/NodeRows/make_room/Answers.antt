use Rattle.std.proofs.Common.{[], refl, ◌∙◌, arith}
use Rattle.std.proofs.lemmas.Grind.{common_steps}
use Rattle.ltm_splits.specs.Table.{rows_of_pair}
use Rattle.ltm_splits.proofs.Ends.{ends_push, get_or_push_default}
use Rattle.ltm_splits.proofs.node_rows.NodeRows.make_room.Goals as goal

pub room-preserved : goal.room-preserved
room-preserved c = record {
  lists = λ d. rw (c.in_ok-push.ensures.items, c.new.ensures) (get_or_push_default c.room.self-inside.pairs.items [] d ∙ c.room.invariant.lists d);
  rows = λ node. rw (c.in_ok-push.ensures.items, c.new.ensures) (ends_push (rows_of_pair node) [] (λ j. refl) 0 c.room.self-inside.pairs.items ∙ c.room.invariant.rows node);
  few = grind (arith, common_steps);
}
