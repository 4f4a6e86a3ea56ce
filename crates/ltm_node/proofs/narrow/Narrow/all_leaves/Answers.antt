use Rattle.std.proofs.Common.{◌≡◌, ◌<◌, ap, arith, rules}
use borrow.Author.Tests.{ltb-true, ltb-false}
use Rattle.ltm_node.specs.declared.shape.NodeShape.{NodeShape}
use Rattle.ltm_node.specs.Inputs.{weight}
use Rattle.ltm_node.specs.Narrow.{IsNarrow}
use Rattle.ltm_node.proofs.NarrowSteps.{all_to_out, nothing_to_out}
use Rattle.ltm_node.proofs.narrow.Narrow.all_leaves.Goals as goal

pub returns-clause-all : goal.returns-clause-all
returns-clause-all c =
    let n = c.args.self.now.inputs.now in
    let s : IsNarrow n.shape = search rules in
    let same : c.args.self.now.shape ≡ n.shape = search rules in
    λ t arm.
    let some : 0 < weight n 0 0 = omega (arith, ltb-true 0 c.weight.result t, c.weight.ensures) in
    all_to_out n arm s c.requires.elsewhere (omega (arith, s.few_outs, c.if-self-eq0.false, ap (λ (z : NodeShape). z.outs) same)) some

pub returns-clause-nothing : goal.returns-clause-nothing
returns-clause-nothing c =
    let n = c.args.self.now.inputs.now in
    let s : IsNarrow n.shape = search rules in
    let same : c.args.self.now.shape ≡ n.shape = search rules in
    λ t arm.
    let none : weight n 0 0 ≡ 0 = omega (arith, ltb-false 0 c.weight.result t, c.weight.ensures) in
    nothing_to_out n arm s c.requires.elsewhere (omega (arith, s.few_outs, c.if-self-eq0.false, ap (λ (z : NodeShape). z.outs) same)) none
