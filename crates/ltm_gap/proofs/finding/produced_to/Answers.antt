use Rattle.std.proofs.Common.{ℕ, ◌+◌, ◌≡◌, arith}
use Rattle.ltm_units.specs.Sums.{sum_below}
use Rattle.ltm_units.proofs.Sums.{sum_below_more}
use Rattle.ltm_setting.specs.Setting.{setting_of}
use Rattle.ltm_gap.proofs.finding.produced_to.Goals as goal

pub loop-origin-preserved : goal.loop-origin-preserved
loop-origin-preserved c =
    let s = setting_of c.args.scenario.now in
    let d : ℕ = c.args.destination in
    let k : ℕ = c.args.boundary in
    let more : sum_below (c.loop-origin.origin + 1) (λ u. s.produced u d k) ≡ sum_below c.loop-origin.origin (λ u. s.produced u d k) + s.produced c.loop-origin.origin d k = sum_below_more (λ u. s.produced u d k) c.loop-origin.origin in
    record {
      sum = omega (arith, more, c.loop-origin.invariant.sum, c.produced-sum.ensures.value);
      small = omega (arith, more, c.loop-origin.invariant.sum, c.produced-sum.ensures.value, c.little_is_produced.ensures.one (c.loop-origin.origin + 1) d k c.requires);
    }
