-- What lies a time before a boundary lies a rest past an earlier boundary.
use Rattle.std.proofs.Common.{◌≡◌, ℕ, ◌+◌, ◌-◌, ◌*◌, ◌/◌, ◌%◌, ◌<◌, ◌≤◌, arith, ap, sym, ◌∙◌}
use Rattle.std.proofs.Math.Nat.{mul-le-mul_left, mul-le-mul_right}
use Rattle.std.proofs.lemmas.Nat.{div-add-mod'}
use Rattle.ltm_curve.specs.Counts.{interpolated}
use Rattle.ltm_times.specs.Queues.{delayed}
use Rattle.ltm_times.proofs.WasReady.{delayed_early, delayed_late}

-- a time that is no whole number of steps is more than the whole steps in it
pub quotient_below : (time step : ℕ) → 1 ≤ step → 0 < time % step → time / step < time
quotient_below time step some over =
    let long : time / step * 1 ≤ time / step * step = mul-le-mul_left (time / step) some in
    omega (arith, long, over, div-add-mod' time step)

-- before the start nothing is counted
pub behind_early : (c : ℕ → ℕ) (step time k whole rest : ℕ) → whole * step ≡ time + rest → rest < step → k < whole → delayed c step time k ≡ 0
behind_early c step time k whole rest is below before =
    let far : (k + 1) * step ≤ whole * step = mul-le-mul_right step (omega (arith, before)) in
    let more : (k + 1) * step ≡ k * step + step = omega arith in
    delayed_early c step time k (omega (arith, far, more, is, below))

-- from then on it is what is counted a rest past a boundary
pub behind_late : (c : ℕ → ℕ) (step time k whole rest : ℕ) → whole * step ≡ time + rest → whole ≤ k → interpolated c step ((k - whole) * step + rest) ≡ delayed c step time k
behind_late c step time k whole rest is since =
    let parts : (k - whole + whole) * step ≡ (k - whole) * step + whole * step = omega arith in
    let all : k - whole + whole ≡ k = omega (arith, since) in
    let end : k * step ≡ (k - whole) * step + whole * step = ap (λ (z : ℕ). z * step) (sym all) ∙ parts in
    sym (delayed_late c step time k (omega (arith, end, is)) ∙ ap (interpolated c step) (omega (arith, end, is)))
