use Rattle.std.proofs.Common.{◌≡◌, ◌+◌, ◌*◌, ℕ, ap, arith, ◌∙◌}
use Rattle.ltm_units.specs.Sums.{sum_below}
use Rattle.ltm_units.proofs.Sums.{sum_below_more}
use Rattle.ltm_times.specs.Queues.{in_queues}
use Rattle.ltm_times.proofs.delays_in_all.queued.Goals as goal

pub loop-slot-preserved : goal.loop-slot-preserved
loop-slot-preserved c = record {
  small = omega (arith, c.loop-slot.invariant.small, c.from-sum.ensures);
  sum = λ s version counts shows.
      let next = sum_below_more (λ t. in_queues s counts (t + 1)) c.loop-slot.slot in
      omega (arith, next, c.loop-slot.invariant.sum s version counts shows, c.from-sum.ensures, c.in_queues.ensures s version counts shows);
}

pub returns : goal.returns
returns c s version counts shows =
    let standing : ℕ → ℕ = λ t. in_queues s counts (t + 1) in
    let all : c.loop-slot.slot ≡ s.slots = omega (arith, c.slots-slot-end.ensures, shows.shape.same_slots) in
    let step : c.from.result ≡ s.step = c.from.ensures ∙ (c.step.ensures.value ∙ shows.step) in
    ap (λ (n : ℕ). n * c.from.result) (c.loop-slot.invariant.sum s version counts shows ∙ ap (λ (n : ℕ). sum_below n standing) all)
    ∙ ap (λ (h : ℕ). sum_below s.slots standing * h) step
