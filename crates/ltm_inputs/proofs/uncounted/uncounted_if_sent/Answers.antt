use Rattle.std.proofs.Common.{List, ◌≤◌, ◌∙◌, IsTrue, length, take, ap, refl, arith}
use Rattle.ltm_curve.specs.Table.{counts_of}
use Rattle.ltm_node.specs.declared.shape.NodeShape.{NodeShape}
use Rattle.ltm_node.specs.Shape.{width}
use Rattle.ltm_node.specs.Lending.{with_numbers}
use Rattle.ltm_node.specs.Uncounted.{uncounted, with_no_counts}
use Rattle.ltm_setting.specs.Setting.{setting_of}
use Rattle.ltm_loading.specs.Uncounted.{IsUncountedPair}
use Rattle.ltm_inputs.proofs.Whole.{written_uncounted}
use Rattle.ltm_inputs.proofs.uncounted.uncounted_if_sent.Goals as goal

pub returns : goal.returns
returns c =
    let s = setting_of c.args.scenario.now in
    let counts = counts_of c.args.curves.now in
    let u = c.args.pair.node.0 in
    let t = c.args.pair.slot in
    let room : List _ = c.put_front_if_sent.new.room in
    let long : width c.reshape.new.self.shape ≤ length room = omega (arith, c.put_front_if_sent.auto.room, c.numbers_mut.ensures.room, c.numbers_mut.ensures.fits) in
    let inputs : IsTrue c.put_front_if_sent.result → IsUncountedPair s counts u t (uncounted (with_numbers c.reshape.new.self room)) = λ is.
    written_uncounted s counts u t c.reshape.new.self (with_numbers c.reshape.new.self room) room (c.reshape.ensures.shape ∙ c.shape_of-shape.ensures.shape) refl long
    (ap (λ (z : NodeShape). with_no_counts z (take (width z) room)) c.reshape.ensures.shape ∙ c.put_front_if_sent.ensures.row is) in
    record {
      inputs = inputs;
      solvable = λ is. c.uncounted_in_range.ensures s counts t u (uncounted (with_numbers c.reshape.new.self room)) c.is_setting.ensures.setting c.requires.ready.front c.requires.ready.now c.requires.node (inputs is);
      idle = c.put_front_if_sent.ensures.idle;
      room = c.reshape.ensures.room;
    }
