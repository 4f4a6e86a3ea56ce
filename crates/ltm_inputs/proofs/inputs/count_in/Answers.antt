use Rattle.std.proofs.Common.{List, ◌≤◌, ◌∙◌, length, take, ap, sym, refl, arith}
use Rattle.ltm_curve.specs.Table.{counts_of}
use Rattle.ltm_node.specs.declared.shape.NodeShape.{NodeShape}
use Rattle.ltm_node.specs.Shape.{width}
use Rattle.ltm_node.specs.Lending.{with_numbers}
use Rattle.ltm_node.specs.Uncounted.{with_no_counts}
use Rattle.ltm_setting.specs.Setting.{setting_of}
use Rattle.ltm_loading.specs.NextPair.{IsPairInputs}
use Rattle.ltm_inputs.proofs.Whole.{written_row, solvable_inputs}
use Rattle.ltm_inputs.proofs.inputs.count_in.Goals as goal

pub put_counts_in_front-requires-clause-row : goal.put_counts_in_front-requires-clause-row
put_counts_in_front-requires-clause-row c =
    ap (λ (z : NodeShape). with_no_counts z (take (width z) c.numbers_mut.result.now)) (c.shape_of-shape.ensures.shape ∙ sym c.requires.uncounted.shape)
    ∙ (ap (with_no_counts c.args.into.now.shape) c.numbers_mut.ensures.row ∙ c.requires.uncounted.row)

pub returns : goal.returns
returns c =
    let s = setting_of c.args.scenario.now in
    let counts = counts_of c.args.curves.now in
    let u = c.args.pair.node.0 in
    let t = c.args.pair.slot in
    let room : List _ = c.put_counts_in_front.new.room in
    let long : width c.args.into.now.shape ≤ length room = omega (arith, c.put_counts_in_front.auto.room, c.numbers_mut.ensures.room, c.numbers_mut.ensures.fits) in
    let inputs : IsPairInputs s counts u t (with_numbers c.args.into.now room) =
    written_row s counts u t c.args.into.now (with_numbers c.args.into.now room) room c.requires.uncounted.shape refl long
    (ap (λ (z : NodeShape). take (width z) room) (c.requires.uncounted.shape ∙ sym c.shape_of-shape.ensures.shape) ∙ c.put_counts_in_front.ensures) in
    record {
      inputs = inputs;
      room = refl;
      solvable = solvable_inputs s counts u t (with_numbers c.args.into.now room) inputs (c.in_range.ensures s counts t u c.is_setting.ensures.setting c.requires.ready.front c.requires.ready.now c.requires.node);
    }
