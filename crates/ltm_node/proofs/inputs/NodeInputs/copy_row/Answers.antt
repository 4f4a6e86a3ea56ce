use Rattle.std.proofs.Common.{ap, arith}
use Rattle.ltm_node.specs.Inputs.{Inputs}
use Rattle.ltm_node.proofs.Rows.{inputs_taken}
use Rattle.ltm_node.proofs.inputs.NodeInputs.copy_row.Goals as goal

pub returns : goal.returns
returns c =
    let room = ap (λ (m : Inputs). m.room) c.self.view_is in
    inputs_taken c.args.shape c.loop-place.self-inside.numbers.items c.args.row.now c.args.self.now.room (omega (arith, room, c.requires.room, c.loop-place.invariant.room)) (omega (arith, room, c.loop-place.invariant.room)) c.requires.width
    (λ k l. c.loop-place.invariant.copied k (omega (arith, c.loop-place-test.false, c.requires.width)))
