use Rattle.std.proofs.Common.{◌≡◌, ◌+◌, ◌*◌, ℕ, ap, arith, ◌∙◌}
use Rattle.ltm_units.specs.Sums.{sum_below}
use Rattle.ltm_loading.specs.Totals.{waiting}
use Rattle.ltm_times.proofs.delays_in_all.waited.Goals as goal

pub returns : goal.returns
returns c s version counts shows =
    let at_origins : ℕ → ℕ = λ t. waiting s counts (t + 1) in
    let all : c.loop-slot.slot ≡ s.slots = omega (arith, c.slots-slot-end.ensures, shows.shape.same_slots) in
    let step : c.from.result ≡ s.step = c.from.ensures ∙ (c.step.ensures.value ∙ shows.step) in
    ap (λ (n : ℕ). n * c.from.result) (c.loop-slot.invariant.sum s version counts shows ∙ ap (λ (n : ℕ). sum_below n at_origins) all)
    ∙ ap (λ (h : ℕ). sum_below s.slots at_origins * h) step
