use Rattle.std.proofs.Common.{◌≡◌, ℕ, ap, arith, ◌∙◌}
use Rattle.ltm_units.specs.Sums.{sum_below}
use Rattle.ltm_units.proofs.Sums.{sum_below_more}
use Rattle.ltm_times.specs.Queues.{queue}
use Rattle.ltm_times.proofs.delays_in_all.in_queues.Goals as goal

pub loop-link-preserved : goal.loop-link-preserved
loop-link-preserved c = record {
  small = omega (arith, c.loop-link.invariant.small, c.queue-sum.ensures.small);
  sum = λ s version counts shows.
      let next = sum_below_more (λ link. queue s counts link c.args.boundary) c.loop-link.link in
      omega (arith, next, c.loop-link.invariant.sum s version counts shows, c.queue-sum.ensures.shown s version counts shows);
}

pub returns : goal.returns
returns c s version counts shows =
    let all : c.loop-link.link ≡ s.links = omega (arith, c.links-link-end.ensures.value, shows.links) in
    c.loop-link.invariant.sum s version counts shows ∙ ap (λ (n : ℕ). sum_below n (λ link. queue s counts link c.args.boundary)) all
