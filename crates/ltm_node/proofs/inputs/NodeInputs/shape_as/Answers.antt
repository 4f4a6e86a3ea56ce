use Rattle.std.proofs.Common.{ap, arith}
use Rattle.ltm_node.specs.Inputs.{Inputs}
use Rattle.ltm_node.proofs.Rows.{inputs_cleared}
use Rattle.ltm_node.proofs.inputs.NodeInputs.shape_as.Goals as goal

pub returns : goal.returns
returns c =
    let room = ap (λ (m : Inputs). m.room) c.self.view_is in
    inputs_cleared c.args.shape c.loop-place.self-inside.numbers.items c.args.self.now.room (omega (arith, room, c.requires, c.loop-place.invariant.room)) (omega (arith, room, c.loop-place.invariant.room))
    (λ k l. c.loop-place.invariant.zeros k (omega (arith, c.width-width.ensures, c.loop-place-test.false)))
