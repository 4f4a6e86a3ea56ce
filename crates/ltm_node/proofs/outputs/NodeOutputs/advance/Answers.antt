use Rattle.std.proofs.Common.{ap, subst, sym}
use Rattle.ltm_node.specs.declared.portion.Portion.{Portion}
use Rattle.ltm_node.specs.Inputs.{Inputs}
use Rattle.ltm_node.specs.Outputs.{Outputs}
use Rattle.ltm_node.specs.Portion.{denominator, numerator}
use Rattle.ltm_node.specs.Moving.{IsMoving}
use Rattle.ltm_node.proofs.Whole.{nothing_moved}
use Rattle.ltm_node.proofs.outputs.NodeOutputs.advance.Goals as goal

pub add_moves-requires-clause-before : goal.add_moves-requires-clause-before
add_moves-requires-clause-before g c =
    let q = c.args.portion in
    let stands = g.T.Tally.stands c.args.tally.now in
    let row = c.begin.new.self.row in
    subst (λ (r : Portion). IsMoving c.of.result.inputs.now (denominator r) (numerator r) (stands c.of.result.inputs.now r) 0 0 0 row) (sym c.of.ensures.portion)
    (subst (λ (n : Inputs). IsMoving n (denominator q) (numerator q) (stands n q) 0 0 0 row) (sym c.of.ensures.inputs)
    (nothing_moved c.args.inputs.now (denominator q) (numerator q) (stands c.args.inputs.now q) row (ap (λ (m : Outputs). m.row) c.begin.ensures.counts) c.begin.ensures.width c.requires.begun))
