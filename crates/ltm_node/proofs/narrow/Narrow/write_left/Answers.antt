use Rattle.std.proofs.Common.{◌≡◌, ◌<◌, ◌≤◌, ◌∙◌, ℕ, ◌+◌, ap, set, refl, arith, rules}
use Rattle.ltm_units.proofs.Sums.{sum_below_more}
use Rattle.ltm_node.specs.Inputs.{left}
use Rattle.ltm_node.specs.Outputs.{left_after_place}
use Rattle.ltm_node.specs.declared.shape.NodeShape.{NodeShape}
use Rattle.ltm_node.specs.Solvable.{IsSolvable}
use Rattle.ltm_node.specs.Narrow.{IsNarrow, leaves, laid}
use Rattle.ltm_node.proofs.NarrowSteps.{leaves_small, left_small, left_more}
use Rattle.ltm_node.proofs.narrow.Narrow.write_left.Goals as goal

pub overflow_add-count : goal.overflow_add-count
overflow_add-count c =
    let n = c.args.self.now.inputs.now in
    let solvable : IsSolvable n = search rules in
    let s : IsNarrow n.shape = search rules in
    let same : c.args.self.now.shape ≡ n.shape = search rules in
    let a : ℕ = c.loop-arm.arm in
    let al : a < n.shape.arms = omega (arith, c.loop-arm-test.true, ap (λ (z : NodeShape). z.arms) same) in
    omega (
      arith,
      c.left.ensures,
      c.sending-amount.ensures,
      c.requires.all a,
      leaves_small n a solvable s al,
      solvable.left_counts a 0 al (omega (arith, s.one_destination)),
    )

pub overflow_add-total : goal.overflow_add-total
overflow_add-total c =
    let n = c.args.self.now.inputs.now in
    let solvable : IsSolvable n = search rules in
    let s : IsNarrow n.shape = search rules in
    let same : c.args.self.now.shape ≡ n.shape = search rules in
    let a : ℕ = c.loop-arm.arm in
    let al : a < n.shape.arms = omega (arith, c.loop-arm-test.true, ap (λ (z : NodeShape). z.arms) same) in
    omega (
      arith,
      c.loop-arm.invariant.total,
      c.sending-amount.ensures,
      c.requires.all a,
      leaves_small n a solvable s al,
      left_small n a solvable s (omega arith),
    )

pub returns-then-total-most-clause-small : goal.returns-then-total-most-clause-small
returns-then-total-most-clause-small c =
    let n = c.args.self.now.inputs.now in
    let solvable : IsSolvable n = search rules in
    let s : IsNarrow n.shape = search rules in
    let same : c.args.self.now.shape ≡ n.shape = search rules in
    let a : ℕ = c.loop-arm.arm in
    let al : a < n.shape.arms = omega (arith, c.loop-arm-test.true, ap (λ (z : NodeShape). z.arms) same) in
    omega (
      arith,
      c.loop-arm.invariant.total,
      c.sending-amount.ensures,
      c.requires.all a,
      sum_below_more (leaves n) a,
      left_small n (a + 1) solvable s (omega arith),
    )

pub loop-arm-preserved : goal.loop-arm-preserved
loop-arm-preserved c =
    let n = c.args.self.now.inputs.now in
    let s : IsNarrow n.shape = search rules in
    let same : c.args.self.now.shape ≡ n.shape = search rules in
    let a : ℕ = c.loop-arm.arm in
    let al : a < n.shape.arms = omega (arith, c.loop-arm-test.true, ap (λ (z : NodeShape). z.arms) same) in
    let v : ℕ = c.left.result + c.sending-amount.result in
    let place : c.left_after_place.result ≡ left_after_place n.shape a 0 = c.left_after_place.ensures.place ∙ ap (λ (z : NodeShape). left_after_place z a 0) same in
    let value : v ≡ left n a 0 + leaves n a = omega (arith, c.left.ensures, c.sending-amount.ensures, c.requires.all a) in
    record {
      left = left_more n a v (laid n.shape c.loop-arm.counts) (laid n.shape (set c.loop-arm.counts c.left_after_place.result v)) s c.loop-arm.invariant.left al value refl (ap (λ z. set c.loop-arm.counts z v) place);
      total = omega (arith, c.loop-arm.invariant.total, c.sending-amount.ensures, c.requires.all a, sum_below_more (leaves n) a);
    }

pub returns-clause-small : goal.returns-clause-small
returns-clause-small c =
    let n = c.args.self.now.inputs.now in
    let solvable : IsSolvable n = search rules in
    let s : IsNarrow n.shape = search rules in
    let same : c.args.self.now.shape ≡ n.shape = search rules in
    let some : c.loop-arm.arm ≤ n.shape.arms = omega (arith, c.loop-arm.auto.arm-end, ap (λ (z : NodeShape). z.arms) same) in
    omega (arith, c.loop-arm.invariant.total, left_small n c.loop-arm.arm solvable s some)
