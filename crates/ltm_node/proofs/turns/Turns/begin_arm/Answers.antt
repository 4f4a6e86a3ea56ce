use Rattle.std.proofs.Common.{ℕ, ap, arith}
use Rattle.ltm_shares.specs.declared.sent.Sent.{Sent}
use Rattle.ltm_shares.specs.Sent.{sent_at}
use Rattle.ltm_node.proofs.Ranges.{sent_into_le, sent_small}
use Rattle.ltm_node.proofs.turns.Turns.begin_arm.Goals as goal

pub of-amount-requires-clause-amount : goal.of-amount-requires-clause-amount
of-amount-requires-clause-amount c =
    let n = c.args.inputs.now in
    let a : ℕ = c.args.arm in
    let k : ℕ = c.loop-out.out in
    omega (
      arith,
      c.at-whole.ensures,
      ap (λ (z : Sent). sent_at z a k) c.loop-out.invariant.rest,
      c.requires.sent a k c.requires.arm (omega (arith, c.loop-out-test.true)),
      sent_into_le n a k,
      sent_small n a c.requires.solvable c.requires.arm,
    )
