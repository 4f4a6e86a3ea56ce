use Rattle.std.proofs.Common.{◌≤◌, refl, arith, inl, inr}
use Rattle.ltm_frontier.proofs.Steps.{starts, goes_on, finishes}
use Rattle.ltm_frontier.proofs.frontier.Frontier.mark_range.Goals as goal

pub loop-slot-init : goal.loop-slot-init
loop-slot-init c = (starts c.args.self.now c.args.reach.node.0 c.args.reach.from, inl refl)

pub loop-slot-preserved : goal.loop-slot-preserved
loop-slot-preserved c = (
  goes_on c.args.self.now c.loop-slot.self _ c.args.reach.node.0 c.args.reach.from c.loop-slot.slot c.loop-slot.auto.slot c.loop-slot.invariant.0 c.mark.ensures,
  inr (omega (arith, c.loop-slot-test.true)),
)

pub returns : goal.returns
returns c =
    let past : c.args.reach.to ≤ c.loop-slot.slot = omega (arith, c.loop-slot-test.false) in
    finishes c.args.self.now _ c.args.reach.node.0 c.args.reach.from c.loop-slot.slot c.args.reach.to past
    (elim c.loop-slot.invariant.1 [ inl first ↦ inr first | inr last ↦ inl (omega (arith, past, last)) ])
    c.loop-slot.invariant.0
