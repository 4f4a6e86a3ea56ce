use Rattle.std.proofs.Common.{arith, rules}
use Rattle.ltm_node.specs.Solvable.{IsSolvable}
use Rattle.ltm_node.proofs.Ranges.{weights_fit}
use Rattle.ltm_node.proofs.moves.Mover.whole_weight.Goals as goal

pub sum_of-requires : goal.sum_of-requires
sum_of-requires c =
    let n = c.args.self.now.inputs.now in
    let s : IsSolvable n = search rules in
    omega (arith, weights_fit n c.args.destination c.weights.result.now s.few_outs (λ k l. s.weights c.args.destination k c.requires l) c.weights.ensures.weights c.weights.ensures.outs)
