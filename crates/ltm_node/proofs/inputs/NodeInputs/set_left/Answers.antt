use Rattle.std.proofs.Common.{◌∙◌, ap}
use Rattle.ltm_node.specs.Inputs.{Inputs}
use Rattle.ltm_node.specs.Shape.{left_place}
use Rattle.ltm_node.proofs.Rows.{inputs_written}
use Rattle.ltm_node.proofs.inputs.NodeInputs.set_left.Goals as goal

pub returns : goal.returns
returns c =
    inputs_written c.self.inside.shape c.self.inside.numbers.items c.args.self.now c.left_place-place.result _ c.args.value c.self.view_is c.left_place-place.ensures.within
    (c.left_place-place.ensures.place ∙ ap (λ (m : Inputs). left_place m.shape c.args.arm c.args.destination) c.self.view_is)
