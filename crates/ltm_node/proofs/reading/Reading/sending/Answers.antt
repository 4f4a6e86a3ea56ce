use Rattle.std.proofs.Common.{◌≡◌, ◌<◌, ◌∙◌, sym, subst}
use Rattle.ltm_node.specs.Inputs.{Inputs, sending}
use Rattle.ltm_node.proofs.AsRead.{sending_as}
use Rattle.ltm_node.proofs.reading.Reading.sending.Goals as goal

pub returns : goal.returns
returns c =
    subst (λ (n : Inputs). c.args.arm < n.shape.arms → c.args.destination < n.shape.destinations → c.sending.result ≡ sending n c.args.arm c.args.destination) c.self.view_is
    (λ il dl. c.sending.ensures ∙ sym (sending_as c.self.inside.counted c.self.inside.inputs.now c.args.arm c.args.destination c.self.invariant il dl))
    c.requires.arm c.requires.destination
