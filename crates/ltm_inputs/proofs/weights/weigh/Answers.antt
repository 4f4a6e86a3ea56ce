use Rattle.std.proofs.Common.{◌≡◌, ◌*◌, ◌+◌, ◌-◌, ◌∙◌, List, ℕ, length, ap, arith, refl}
use Rattle.ltm_node.specs.declared.shape.NodeShape.{NodeShape}
use Rattle.ltm_node.specs.Inputs.{Inputs}
use Rattle.ltm_node.specs.Lending.{with_numbers}
use Rattle.ltm_node.specs.Shape.{width, weights_begin}
use Rattle.ltm_loading.proofs.Rows.{length-grid}
use Rattle.ltm_setting.specs.Setting.{setting_of}
use Rattle.ltm_inputs.proofs.Weighing.{weighed, written_weights}
use Rattle.ltm_inputs.proofs.weights.weigh.Goals as goal

pub returns-clause-inputs : goal.returns-clause-inputs
returns-clause-inputs c counts h =
    let s = setting_of c.args.scenario.now in
    let u = c.args.pair.node.0 in
    let t = c.args.pair.slot in
    let old : Inputs = c.args.into.now in
    let room : List ℕ = c.numbers_mut-numbers.result.now in
    let ws : List ℕ = c.put_weights.new.into in
    let begin : ℕ = c.weights_begin.result in
    let same : length ws ≡ s.destinations * s.outs u = ap length c.put_weights.ensures ∙ length-grid s.destinations (s.outs u) (λ d j. s.weight u d t j) in
    let many : begin + length ws ≡ width old.shape =
    omega (
      arith,
      c.weights_begin.ensures.within,
      same,
      ap (λ (z : NodeShape). z.destinations * z.outs) c.requires.shape,
      ap (λ (z : NodeShape). z.destinations * z.outs) c.shape-shape.ensures,
      ap width c.shape-shape.ensures,
    ) in
    weighed s counts u t old (with_numbers old _) ws h c.put_weights.ensures refl
    (written_weights old room ws begin (c.width.result - begin) (c.weights_begin.ensures.place ∙ ap weights_begin c.shape-shape.ensures) many (omega (arith, c.numbers_mut-numbers.ensures.fits, c.numbers_mut-numbers.ensures.room)) c.numbers_mut-numbers.ensures.row)
