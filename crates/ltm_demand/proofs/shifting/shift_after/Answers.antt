use Rattle.std.proofs.Common.{◌≡◌, ◌+◌, ◌*◌, ◌≤◌, slice_index, arith, subst, ◌∙◌, inl, inr}
use Rattle.std.proofs.Math.Nat.{mul-le-mul_right}
use Rattle.std.proofs.lemmas.Bool.{cases_lt}
use Rattle.ltm_demand.proofs.Cells.{is_below}
use Rattle.ltm_demand.proofs.shifting.shift_after.Goals as goal

pub exchange_both-requires-clause-within : goal.exchange_both-requires-clause-within
exchange_both-requires-clause-within c =
    let next : c.loop-slot.slot + 1 ≤ c.args.slots = omega (arith, c.loop-slot-test.true) in
    omega (arith, mul-le-mul_right c.args.width next, c.requires.reaches, c.loop-slot.invariant.long)

pub exchange_both-requires-clause-has : goal.exchange_both-requires-clause-has
exchange_both-requires-clause-has c = λ k which. omega (arith, c.requires.has k c.loop-slot.slot which c.loop-slot.auto.slot c.loop-slot-test.true, c.loop-slot.invariant.left k c.loop-slot.slot (is_below c.args.width (c.args.row.now.destination + 1) k c.requires.own which) (omega arith))

pub exchange_both-requires-clause-room : goal.exchange_both-requires-clause-room
exchange_both-requires-clause-room c = λ k which. omega (arith, c.requires.room k c.loop-slot.slot which c.loop-slot.auto.slot c.loop-slot-test.true, c.loop-slot.invariant.left k c.loop-slot.slot (is_below c.args.width (c.args.row.now.destination + 1) k c.requires.own which) (omega arith))

pub loop-slot-preserved : goal.loop-slot-preserved
loop-slot-preserved c =
    let s = c.loop-slot.slot in
    let w = c.args.width in
    let made = c.exchange_both.ensures in
    let new = c.exchange_both.new.units in
    let first = c.args.units.now in
    record {
      long = made.len ∙ c.loop-slot.invariant.long;
      front = λ k t under early. made.elsewhere k t under (omega (arith, c.loop-slot.auto.slot)) ∙ c.loop-slot.invariant.front k t under early;
      done = λ k t which from before. elim (cases_lt t s) [
        | inl less ↦ omega (arith, made.elsewhere k t (is_below w (c.args.row.now.destination + 1) k c.requires.own which) (omega arith), c.loop-slot.invariant.done k t which from less)
        | inr more ↦
            let same : s ≡ t = omega arith in
            subst (λ n. slice_index new (n * w + k) + c.args.was ≡ slice_index first (n * w + k) + c.args.row.now.amount.0) same
            (omega (arith, made.here k which, c.loop-slot.invariant.left k s (is_below w (c.args.row.now.destination + 1) k c.requires.own which) (omega arith)))
      ];
      left = λ k t under beyond. made.elsewhere k t under (omega arith) ∙ c.loop-slot.invariant.left k t under (omega arith);
      others = λ k t under zeroth other. made.others k t under zeroth other ∙ c.loop-slot.invariant.others k t under zeroth other;
    }
