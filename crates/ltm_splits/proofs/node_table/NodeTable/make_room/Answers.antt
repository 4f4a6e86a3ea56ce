use Rattle.std.proofs.Common.{◌≡◌, [], get_or, ap, ◌∙◌}
use Rattle.std.proofs.lemmas.List.{get_or_default}
use Rattle.ltm_splits.specs.Table.{rows_of_node, rows_of_all}
use Rattle.ltm_splits.proofs.Ends.{set_ends}
use Rattle.ltm_splits.proofs.node_table.NodeTable.make_room.Goals as goal

pub returns-clause-rows : goal.returns-clause-rows
returns-clause-rows c =
    let was : c.index_mut.result.now ≡ get_or c.make_node.new.nodes.items c.args.node.0 [] = c.index_mut.ensures.value ∙ get_or_default c.make_node.new.nodes.items c.args.node.0 c.index_mut.result.now [] c.in_ok-make_node.ensures.node in
    set_ends rows_of_node [] c.make_room.new.self 0 c.args.node.0 c.make_node.new.nodes.items (λ j. c.make_room.ensures.rows j ∙ ap (rows_of_node j) was) ∙ c.make_node.ensures.rows ∙ ap rows_of_all c.self.view_is
