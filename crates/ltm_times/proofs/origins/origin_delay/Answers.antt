use Rattle.std.proofs.Common.{◌≡◌, ◌+◌, ◌*◌, ℕ, ap, arith, refl, subst, ◌∙◌}
use Rattle.ltm_units.specs.Sums.{sum_below}
use Rattle.ltm_units.proofs.Sums.{sum_below_more}
use Rattle.ltm_times.specs.Queues.{waiting_at}
use Rattle.ltm_times.specs.Peaks.{IsPeakOf}
use Rattle.ltm_times.proofs.origins.origin_delay.Goals as goal

pub loop-slot-preserved : goal.loop-slot-preserved
loop-slot-preserved c = record {
  small = omega (arith, c.loop-slot.invariant.small, c.from-waited.ensures);
  waited = λ s version counts shows.
      let next = sum_below_more (λ t. waiting_at s counts c.args.node.0 (t + 1)) c.loop-slot.slot in
      omega (arith, next, c.loop-slot.invariant.waited s version counts shows, c.from-waited.ensures, c.waiting-standing.ensures s version counts shows);
  peak = λ s version counts shows.
      c.peak_by-peak.ensures (waiting_at s counts c.args.node.0) c.loop-slot.slot (c.loop-slot.invariant.peak s version counts shows) refl
      (c.waiting-standing.ensures s version counts shows);
}

pub returns : goal.returns
returns c s version counts shows =
    let node = c.args.node.0 in
    let standing : ℕ → ℕ = λ t. waiting_at s counts node (t + 1) in
    let all : c.loop-slot.slot ≡ s.slots = omega (arith, c.slots-slot-end.ensures, shows.shape.same_slots) in
    let step : c.from.result ≡ s.step = c.from.ensures ∙ (c.step.ensures.value ∙ shows.step) in
    record {
      waited = ap (λ (n : ℕ). n * c.from.result) (c.loop-slot.invariant.waited s version counts shows ∙ ap (λ (n : ℕ). sum_below n standing) all)
          ∙ ap (λ (h : ℕ). sum_below s.slots standing * h) step;
      peak = subst (λ (n : ℕ). IsPeakOf (waiting_at s counts node) n c.loop-slot.peak) all (c.loop-slot.invariant.peak s version counts shows);
    }
