use Rattle.std.proofs.Common.{◌≡◌, ℕ, slice_index, subst, arith}
use Rattle.ltm_shares.specs.Demands.{demands_of}
use Rattle.ltm_node.specs.Moving.{AsksFirst}
use Rattle.ltm_node.proofs.Demanded.{asks_small, shares_of}
use Rattle.ltm_node.proofs.node_step.share_out.Goals as goal

pub shares-requires : goal.shares-requires
shares-requires c =
    let n = c.args.inputs.now in
    let m = demands_of c.loop-out.demands in
    let all : c.loop-out.out ≡ n.shape.outs = omega (arith, c.loop-out-test.false, c.loop-out.auto.out-end, c.outs-out-end.ensures) in
    asks_small n m c.requires.solvable (subst (λ (z : ℕ). AsksFirst n z m) all c.loop-out.invariant)

pub returns : goal.returns
returns c =
    let n = c.args.inputs.now in
    let m = demands_of c.loop-out.demands in
    let all : c.loop-out.out ≡ n.shape.outs = omega (arith, c.loop-out-test.false, c.loop-out.auto.out-end, c.outs-out-end.ensures) in
    shares_of n m c.shares.result.denominator (slice_index c.shares.result.numerators) (subst (λ (z : ℕ). AsksFirst n z m) all c.loop-out.invariant) c.shares.ensures
