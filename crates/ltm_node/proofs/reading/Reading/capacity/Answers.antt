use Rattle.std.proofs.Common.{◌≡◌, ◌∙◌, sym, subst}
use Rattle.ltm_node.specs.Inputs.{Inputs, capacity}
use Rattle.ltm_node.proofs.AsRead.{capacity_as}
use Rattle.ltm_node.proofs.reading.Reading.capacity.Goals as goal

pub returns : goal.returns
returns c =
    subst (λ (n : Inputs). c.capacity.result ≡ capacity n c.args.arm) c.self.view_is
    (c.capacity.ensures ∙ sym (capacity_as c.self.inside.counted c.self.inside.inputs.now c.args.arm c.self.invariant))
