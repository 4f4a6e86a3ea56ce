use Rattle.std.proofs.Common.{◌≡◌, ℕ, ap, arith, rules, subst}
use Rattle.ltm_node.specs.declared.shape.NodeShape.{NodeShape}
use Rattle.ltm_node.specs.Solvable.{IsSolvable}
use Rattle.ltm_node.specs.Portion.{denominator, numerator}
use Rattle.ltm_node.specs.Moving.{IsMoving}
use Rattle.ltm_node.proofs.Amounts.{next_destination}
use Rattle.ltm_node.proofs.moves.Mover.sink_all.Goals as goal

pub returns : goal.returns
returns g c =
    let n = c.args.self.now.inputs.now in
    let e : ℕ = denominator c.args.self.now.portion in
    let p : ℕ → ℕ = numerator c.args.self.now.portion in
    let s : IsSolvable n = search rules in
    let stands : ℕ → ℕ → ℕ → Type 0 = g.T.Tally.stands c.args.tally.now n c.args.self.now.portion in
    let same : c.args.self.now.shape ≡ n.shape = search rules in
    let all : c.loop-arm.arm ≡ n.shape.arms = omega (arith, c.loop-arm-test.false, ap (λ (z : NodeShape). z.arms) same) in
    record {
      after = next_destination n e p stands c.args.destination c.loop-arm.row s
          (subst (λ (k : ℕ). IsMoving n e p stands c.args.destination k 0 c.loop-arm.row) all c.loop-arm.invariant);
    }
