use Rattle.std.proofs.Common.{◌≡◌, ◌+◌, ◌-◌, ◌*◌, ℕ, ap, arith, ◌∙◌}
use Rattle.ltm_units.specs.Sums.{sum_below}
use Rattle.ltm_units.proofs.Sums.{sum_below_more}
use Rattle.ltm_loading.specs.Totals.{generated, arrived}
use Rattle.ltm_times.proofs.spending.time_spent.Goals as goal

pub loop-slot-preserved : goal.loop-slot-preserved
loop-slot-preserved c = record {
  small = omega (arith, c.from-sum.ensures, c.saturating_sub.ensures);
  sum = λ s version counts shows.
      let next = sum_below_more (λ t. generated s (t + 1) - arrived s counts (t + 1)) c.loop-slot.slot in
      omega (
        arith,
        next,
        c.loop-slot.invariant.sum s version counts shows,
        c.from-sum.ensures,
        c.saturating_sub.ensures,
        c.generated-generated.ensures,
        shows.generated (c.loop-slot.slot + 1) (omega (arith, c.loop-slot-test.true, c.slots-slot-end.ensures, shows.shape.same_slots)),
        c.arrived-arrived.ensures.shown s version counts shows,
      );
}

pub returns : goal.returns
returns c s version counts shows =
    let spent : ℕ → ℕ = λ t. generated s (t + 1) - arrived s counts (t + 1) in
    let all : c.loop-slot.slot ≡ s.slots = omega (arith, c.slots-slot-end.ensures, shows.shape.same_slots) in
    let step : c.from.result ≡ s.step = c.from.ensures ∙ (c.step.ensures.value ∙ shows.step) in
    ap (λ (n : ℕ). n * c.from.result) (c.loop-slot.invariant.sum s version counts shows ∙ ap (λ (n : ℕ). sum_below n spent) all)
    ∙ ap (λ (h : ℕ). sum_below s.slots spent * h) step
