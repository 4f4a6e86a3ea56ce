use Rattle.std.proofs.Common.{None}
use Rattle.ltm_curve.specs.Table.{counts_of}
use Rattle.ltm_loading.specs.Pairs.{count_row}
use Rattle.ltm_setting.specs.Setting.{setting_of}
use Rattle.ltm_check.proofs.Meeting.{still_sums, still_step, grow_meets, meets_grow}
use Rattle.ltm_check.proofs.meets.meets_nothing.Goals as goal

pub returns : goal.returns
returns c =
    let s = setting_of c.args.scenario.now in
    let counts = counts_of c.args.curves.now in
    let u = c.args.pair.node.0 in
    let t = c.args.pair.slot in
    let row = count_row s counts u t in
    let step = still_step s counts u t c.inputs_by_place.ensures c.counts_by_place.ensures c.nothing_moves.ensures c.requires.idle in
    let sums = still_sums s counts u t c.groups_by_row.ensures in (
      λ yes. grow_meets s counts u t None row c.groups_by_row.ensures c.same_shape.ensures step sums (c.node_grows.ensures.0 yes),
      λ meets. c.node_grows.ensures.1 (meets_grow s counts u t None row c.groups_by_row.ensures c.one_step.ensures
          (c.in_range.ensures s counts t u c.is_setting.ensures.setting c.requires.front.front c.requires.front.now c.requires.node) step sums meets),
    )
