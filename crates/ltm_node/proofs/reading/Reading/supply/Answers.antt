use Rattle.std.proofs.Common.{◌≡◌, ◌∙◌, sym, subst}
use Rattle.ltm_node.specs.Inputs.{Inputs, supply}
use Rattle.ltm_node.proofs.AsRead.{supply_as}
use Rattle.ltm_node.proofs.reading.Reading.supply.Goals as goal

pub returns : goal.returns
returns c =
    subst (λ (n : Inputs). c.supply.result ≡ supply n c.args.out) c.self.view_is
    (c.supply.ensures ∙ sym (supply_as c.self.inside.counted c.self.inside.inputs.now c.args.out c.self.invariant))
