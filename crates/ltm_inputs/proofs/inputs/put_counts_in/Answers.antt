use Rattle.std.proofs.Common.{◌≤◌, length, drop, ap, arith, ◌∙◌}
use Rattle.ltm_curve.specs.Table.{counts_of}
use Rattle.ltm_node.specs.Shape.{width}
use Rattle.ltm_setting.specs.Setting.{setting_of}
use Rattle.ltm_inputs.proofs.Joined.{counts_written}
use Rattle.ltm_inputs.proofs.Told.{HasParts, parts_from}
use Rattle.ltm_inputs.proofs.inputs.put_counts_in.Goals as goal

pub returns : goal.returns
returns c =
    let s = setting_of c.args.scenario.now in
    let counts = counts_of c.args.curves.now in
    let u = c.args.pair.node.0 in
    let t = c.args.pair.slot in
    let shape = c.args.shape in
    let long : width shape ≤ length c.args.row.now = omega (arith, c.requires.room) in
    let parts : HasParts s counts u t shape c.args.row.now = parts_from s counts u t shape c.args.row.now c.requires.shape long c.requires.row in
    counts_written s counts u t shape c.args.row.now c.split_at_mut-sending.result.0.now c.put_counts.new.into c.split_at_mut-counts.result.1.now c.counts_begin.result c.counts_width.result
    parts c.counts_begin.ensures.place c.counts_width.ensures
    c.split_at_mut-sending.ensures.front c.put_counts.ensures (c.split_at_mut-counts.ensures.back ∙ ap (drop c.counts_width.result) c.split_at_mut-sending.ensures.back)
