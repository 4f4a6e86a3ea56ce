use Rattle.std.proofs.Common.{◌≡◌, ◌+◌, ◌*◌, ◌≤◌, slice_index, refl, arith, subst, ◌∙◌, inl, inr}
use Rattle.std.proofs.Math.Nat.{mul-le-mul_right}
use Rattle.std.proofs.lemmas.Bool.{cases_lt}
use Rattle.ltm_demand.specs.Produced.{produced}
use Rattle.ltm_demand.proofs.Parts.{produced_start, produced_le, paced}
use Rattle.ltm_demand.proofs.Cells.{is_below}
use Rattle.ltm_demand.proofs.shifting.shift_during.Goals as goal

pub loop-slot-init : goal.loop-slot-init
loop-slot-init c = record {
  long = refl;
  gone_amount = c.of-gone.ensures.amount;
  gone_slots = c.of-gone.ensures.slots;
  gone_passed = omega (arith, c.of-gone.ensures.passed);
  come_amount = c.of-come.ensures.amount;
  come_slots = c.of-come.ensures.slots;
  come_passed = omega (arith, c.of-come.ensures.passed);
  done = λ k t which early. omega (arith, produced_start c.args.row.now.from c.args.row.now.to c.args.was t early, produced_start c.args.row.now.from c.args.row.now.to c.args.row.now.amount.0 t early);
  left = λ k t under from. refl;
  others = λ k t under zeroth other. refl;
}

pub exchange_both-requires-clause-within : goal.exchange_both-requires-clause-within
exchange_both-requires-clause-within c =
    let next : c.loop-slot.slot + 1 ≤ c.args.row.now.to = omega (arith, c.loop-slot-test.true) in
    omega (arith, mul-le-mul_right c.args.width next, c.requires.reaches, c.loop-slot.invariant.long)

pub exchange_both-requires-clause-has : goal.exchange_both-requires-clause-has
exchange_both-requires-clause-has c = λ k which.
    let s = c.loop-slot.slot in
    let gone = paced c.args.row.now.from c.args.row.now.to c.args.was s _ _ _ _ c.loop-slot.auto.slot c.loop-slot-test.true c.loop-slot.invariant.gone_amount c.loop-slot.invariant.gone_slots c.loop-slot.invariant.gone_passed c.next.ensures.value in
    omega (arith, gone, c.requires.has k s which c.loop-slot-test.true, c.loop-slot.invariant.left k s (is_below c.args.width (c.args.row.now.destination + 1) k c.requires.own which) (omega arith))

pub exchange_both-requires-clause-room : goal.exchange_both-requires-clause-room
exchange_both-requires-clause-room c = λ k which.
    let s = c.loop-slot.slot in
    omega (arith, c.requires.room k s which c.loop-slot-test.true, c.loop-slot.invariant.left k s (is_below c.args.width (c.args.row.now.destination + 1) k c.requires.own which) (omega arith))

pub exchange_both-requires-clause-come : goal.exchange_both-requires-clause-come
exchange_both-requires-clause-come c =
    let s = c.loop-slot.slot in
    let come = paced c.args.row.now.from c.args.row.now.to c.args.row.now.amount.0 s _ _ _ _ c.loop-slot.auto.slot c.loop-slot-test.true c.loop-slot.invariant.come_amount c.loop-slot.invariant.come_slots c.loop-slot.invariant.come_passed c.next-in-loop-slot.ensures.value in
    omega (arith, come, produced_le c.args.row.now.from c.args.row.now.to c.args.row.now.amount.0 s, c.requires.now)

pub loop-slot-preserved : goal.loop-slot-preserved
loop-slot-preserved c =
    let s = c.loop-slot.slot in
    let w = c.args.width in
    let made = c.exchange_both.ensures in
    let new = c.exchange_both.new.units in
    let first = c.args.units.now in
    let gone = paced c.args.row.now.from c.args.row.now.to c.args.was s _ _ _ _ c.loop-slot.auto.slot c.loop-slot-test.true c.loop-slot.invariant.gone_amount c.loop-slot.invariant.gone_slots c.loop-slot.invariant.gone_passed c.next.ensures.value in
    let come = paced c.args.row.now.from c.args.row.now.to c.args.row.now.amount.0 s _ _ _ _ c.loop-slot.auto.slot c.loop-slot-test.true c.loop-slot.invariant.come_amount c.loop-slot.invariant.come_slots c.loop-slot.invariant.come_passed c.next-in-loop-slot.ensures.value in
    record {
      long = made.len ∙ c.loop-slot.invariant.long;
      gone_amount = c.next.ensures.amount ∙ c.loop-slot.invariant.gone_amount;
      gone_slots = c.next.ensures.slots ∙ c.loop-slot.invariant.gone_slots;
      gone_passed = omega (arith, c.next.ensures.passed, c.loop-slot.invariant.gone_passed);
      come_amount = c.next-in-loop-slot.ensures.amount ∙ c.loop-slot.invariant.come_amount;
      come_slots = c.next-in-loop-slot.ensures.slots ∙ c.loop-slot.invariant.come_slots;
      come_passed = omega (arith, c.next-in-loop-slot.ensures.passed, c.loop-slot.invariant.come_passed);
      done = λ k t which before. elim (cases_lt t s) [
        | inl less ↦ omega (arith, made.elsewhere k t (is_below w (c.args.row.now.destination + 1) k c.requires.own which) (omega arith), c.loop-slot.invariant.done k t which less)
        | inr more ↦
            let same : s ≡ t = omega arith in
            subst (λ n. slice_index new (n * w + k) + produced c.args.row.now.from c.args.row.now.to c.args.was n ≡ slice_index first (n * w + k) + produced c.args.row.now.from c.args.row.now.to c.args.row.now.amount.0 n) same
            (omega (arith, made.here k which, gone, come, c.loop-slot.invariant.left k s (is_below w (c.args.row.now.destination + 1) k c.requires.own which) (omega arith)))
      ];
      left = λ k t under beyond. made.elsewhere k t under (omega arith) ∙ c.loop-slot.invariant.left k t under (omega arith);
      others = λ k t under zeroth other. made.others k t under zeroth other ∙ c.loop-slot.invariant.others k t under zeroth other;
    }
