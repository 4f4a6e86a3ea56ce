use Rattle.std.proofs.Common.{◌∙◌, ◌+◌, ap, arith}
use Rattle.ltm_node.specs.Inputs.{Inputs}
use Rattle.ltm_node.specs.Shape.{weights_place}
use Rattle.ltm_node.proofs.Rows.{inputs_written}
use Rattle.ltm_node.proofs.inputs.NodeInputs.set_weight.Goals as goal

pub returns : goal.returns
returns c =
    inputs_written c.self.inside.shape c.self.inside.numbers.items c.args.self.now (c.weights_place.result + c.args.out) _ c.args.value c.self.view_is
    (omega (arith, c.weights_place.ensures.within, c.requires.out, ap (λ (m : Inputs). m.shape.outs) c.self.view_is))
    (ap (λ k. k + c.args.out) (c.weights_place.ensures.place ∙ ap (λ (m : Inputs). weights_place m.shape c.args.destination) c.self.view_is))
