use Rattle.std.proofs.Common.{◌≡◌, ◌*◌, ◌+◌, ◌-◌, ◌∙◌, List, ℕ, length, ap, arith, refl}
use Rattle.ltm_node.specs.declared.shape.NodeShape.{NodeShape}
use Rattle.ltm_node.specs.Inputs.{Inputs}
use Rattle.ltm_node.specs.Lending.{with_numbers}
use Rattle.ltm_node.specs.Shape.{width, weights_begin}
use Rattle.ltm_inputs.proofs.Weighing.{weighed, written_weights}
use Rattle.ltm_inputs.proofs.weights.weigh_as.Goals as goal

pub returns-clause-inputs : goal.returns-clause-inputs
returns-clause-inputs c s counts u t h told =
    let old : Inputs = c.args.into.now in
    let room : List ℕ = c.numbers_mut-numbers.result.now in
    let ws : List ℕ = c.put_numbers.new.into in
    let begin : ℕ = c.weights_begin.result in
    let many : begin + length ws ≡ width old.shape =
    omega (
      arith,
      c.weights_begin.ensures.within,
      ap length c.put_numbers.ensures,
      c.requires,
      ap (λ (z : NodeShape). z.destinations * z.outs) c.shape-shape.ensures,
      ap width c.shape-shape.ensures,
    ) in
    weighed s counts u t old (with_numbers old _) ws h (c.put_numbers.ensures ∙ told) refl
    (written_weights old room ws begin (c.width.result - begin) (c.weights_begin.ensures.place ∙ ap weights_begin c.shape-shape.ensures) many (omega (arith, c.numbers_mut-numbers.ensures.fits, c.numbers_mut-numbers.ensures.room)) c.numbers_mut-numbers.ensures.row)
