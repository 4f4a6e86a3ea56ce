use Rattle.std.proofs.Common.{◌≡◌, ℕ, ◌^◌, ◌≤◌, slice_index, arith, ap, ◌∙◌}
use Rattle.std.proofs.Math.Nat.{mul-le-mul_right}
use Rattle.ltm_units.specs.Bounds.{most_destinations}
use Rattle.ltm_units.specs.Sums.{sum_below}
use Rattle.ltm_units.proofs.Sums.{sum_below-most, sum_below-same}
use Rattle.ltm_curve.specs.Table.{counts_of}
use Rattle.ltm_curve.proofs.curves.Curves.summed_total.Goals as goal

pub overflow_add-total : goal.overflow_add-total
overflow_add-total c =
    let d : ℕ = c.loop-destination.destination in
    let few : d ≤ most_destinations = omega (arith, c.loop-destination-test.true, c.row-row.ensures.count, c.args.self.now.few) in
    omega (
      arith,
      c.from-total.ensures,
      c.loop-destination.invariant,
      c.row-row.ensures.small d,
      sum_below-most d (slice_index c.row-row.result.now) (2 ^ 31) (λ k l. omega (arith, c.row-row.ensures.small k)),
      mul-le-mul_right (2 ^ 31) few,
    )

pub returns : goal.returns
returns c =
    let all : c.loop-destination.destination ≡ c.args.self.now.destinations = omega (arith, c.loop-destination-test.false, c.row-row.ensures.count) in
    c.loop-destination.invariant
    ∙ (ap (λ (n : ℕ). sum_below n (slice_index c.row-row.result.now)) all
    ∙ sum_below-same c.args.self.now.destinations (slice_index c.row-row.result.now) (λ d. counts_of c.args.self.now c.args.group d c.args.boundary) c.row-row.ensures.counts)
