use Rattle.std.proofs.Common.{[], refl, ◌∙◌, arith}
use Rattle.std.proofs.lemmas.Grind.{common_steps}
use Rattle.ltm_splits.specs.Table.{rows_of_node}
use Rattle.ltm_splits.proofs.Ends.{ends_push, get_or_push_default}
use Rattle.ltm_splits.proofs.node_table.make_node.Goals as goal

pub room-preserved : goal.room-preserved
room-preserved c = record {
  lists = λ n. rw (c.in_ok-push.ensures.items, c.new.ensures) (get_or_push_default c.room.nodes.items [] n ∙ c.room.invariant.lists n);
  rows = rw (c.in_ok-push.ensures.items, c.new.ensures) (ends_push rows_of_node [] (λ j. refl) 0 c.room.nodes.items ∙ c.room.invariant.rows);
  few = grind (arith, common_steps);
}
