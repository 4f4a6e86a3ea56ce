use Rattle.std.proofs.Common.{◌∙◌, arith, ap, Some}
use Rattle.ltm_curve.specs.Table.{counts_of}
use Rattle.ltm_node.specs.Shape.{counts_width}
use Rattle.ltm_loading.specs.Uncounted.{moved_on}
use Rattle.ltm_setting.specs.Setting.{setting_of}
use Rattle.ltm_check.proofs.Meeting.{moved_sums, grow_meets, meets_grow}
use Rattle.ltm_check.proofs.meets.meets_moves.Goals as goal

pub write_moves-requires-clause-room : goal.write_moves-requires-clause-room
write_moves-requires-clause-room c =
    let u = c.args.pair.node.0 in
    omega (arith, c.requires.outputs u c.requires.node, ap counts_width c.requires.reads.shape)

pub node_grows-requires-clause-moves : goal.node_grows-requires-clause-moves
node_grows-requires-clause-moves c = (c.same_shape.ensures _ _ c.write_moves.ensures.step).0 ∙ c.requires.reads.shape

pub returns-clause-meets : goal.returns-clause-meets
returns-clause-meets c =
    let s = setting_of c.args.scenario.now in
    let counts = counts_of c.args.curves.now in
    let u = c.args.pair.node.0 in
    let t = c.args.pair.slot in
    let moves = c.write_moves.new.outputs in
    let row = moved_on s counts u t moves.row in
    let step = c.step_by_moves.ensures s counts u t _ moves c.requires.reads c.write_moves.ensures.step in
    let sums = moved_sums s counts u t moves c.groups_by_row.ensures ((c.same_shape.ensures _ _ c.write_moves.ensures.step).0 ∙ c.requires.reads.shape) in (
      λ yes. grow_meets s counts u t (Some moves) row c.groups_by_row.ensures c.same_shape.ensures step sums (c.node_grows.ensures.0 yes),
      λ meets. c.node_grows.ensures.1 (meets_grow s counts u t (Some moves) row c.groups_by_row.ensures c.one_step.ensures
          (c.in_range.ensures s counts t u c.is_setting.ensures.setting c.requires.front.front c.requires.front.now c.requires.node) step sums meets),
    )
