use Rattle.std.proofs.Common.{◌∙◌, ap, arith}
use Rattle.ltm_node.specs.Inputs.{Inputs}
use Rattle.ltm_node.specs.Shape.{arrived_place}
use Rattle.ltm_node.proofs.Rows.{inputs_written}
use Rattle.ltm_node.proofs.inputs.NodeInputs.set_arrived.Goals as goal

pub returns : goal.returns
returns c =
    inputs_written c.self.inside.shape c.self.inside.numbers.items c.args.self.now c.arrived_place-place.result _ c.args.value c.self.view_is (omega (arith, c.arrived_place-place.ensures.within))
    (c.arrived_place-place.ensures.place ∙ ap (λ (m : Inputs). arrived_place m.shape) c.self.view_is)
