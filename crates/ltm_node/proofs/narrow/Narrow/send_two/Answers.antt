use Rattle.std.proofs.Common.{◌≡◌, ◌≤◌, ℕ, ◌+◌, subst, sym, arith, rules}
use Rattle.ltm_units.specs.Sums.{sum_below}
use Rattle.ltm_node.specs.Inputs.{supply}
use Rattle.ltm_node.specs.Solvable.{IsSolvable}
use Rattle.ltm_node.specs.Narrow.{IsNarrow, leaves, laid}
use Rattle.ltm_node.proofs.NarrowSteps.{sum_of_two, leaves_small, step_to_out}
use Rattle.ltm_node.proofs.narrow.Narrow.send_two.Goals as goal

pub overflow_add-total : goal.overflow_add-total
overflow_add-total c =
    let n = c.args.self.now.inputs.now in
    let solvable : IsSolvable n = search rules in
    let s : IsNarrow n.shape = search rules in
    omega (
      arith,
      c.sending-first.ensures,
      c.sending-second.ensures,
      c.requires.all 0,
      c.requires.all 1,
      leaves_small n 0 solvable s (omega (arith, c.requires.arms)),
      leaves_small n 1 solvable s (omega (arith, c.requires.arms)),
    )

pub write_rest-requires-clause-entering : goal.write_rest-requires-clause-entering
write_rest-requires-clause-entering c =
    let n = c.args.self.now.inputs.now in
    let solvable : IsSolvable n = search rules in
    let s : IsNarrow n.shape = search rules in
    omega (
      arith,
      c.sending-first.ensures,
      c.sending-second.ensures,
      c.requires.all 0,
      c.requires.all 1,
      leaves_small n 0 solvable s (omega (arith, c.requires.arms)),
      leaves_small n 1 solvable s (omega (arith, c.requires.arms)),
    )

pub returns : goal.returns
returns c =
    let n = c.args.self.now.inputs.now in
    let s : IsNarrow n.shape = search rules in
    let total : ℕ = c.sending-first.result + c.sending-second.result in
    let sum : total ≡ sum_below n.shape.arms (leaves n) =
    omega (arith, sum_of_two n.shape.arms (leaves n) c.requires.arms, c.sending-first.ensures, c.sending-second.ensures, c.requires.all 0, c.requires.all 1) in
    λ t. step_to_out n (laid n.shape c.write_rest.new.counts) total s c.requires.elsewhere sum
    (λ j l.
    let only : j ≡ 0 = omega (arith, c.requires.out) in
    subst (λ (z : ℕ). total ≤ supply n z) (sym only) (omega (arith, c.if-total-most.false, c.can_take-most.ensures)))
    c.write_rest.ensures.after
