use Rattle.std.proofs.Common.{◌≡◌, ℕ, ap, arith, ◌∙◌}
use Rattle.ltm_units.specs.Sums.{sum_below}
use Rattle.ltm_units.proofs.Sums.{sum_below_more}
use Rattle.ltm_flows.specs.Origins.{departed_from}
use Rattle.ltm_times.proofs.delays_in_all.departed.Goals as goal

pub loop-node-preserved : goal.loop-node-preserved
loop-node-preserved c = record {
  small = omega (arith, c.loop-node.invariant.small, c.from-sum.ensures, c.departed.ensures.small);
  sum = λ s version counts shows.
      let next = sum_below_more (λ node. departed_from s counts node c.args.boundary) c.loop-node.node in
      omega (arith, next, c.loop-node.invariant.sum s version counts shows, c.from-sum.ensures, c.departed.ensures.shown s version counts shows);
}

pub returns : goal.returns
returns c s version counts shows =
    let all : c.loop-node.node ≡ s.nodes = omega (arith, c.nodes-node-end.ensures, shows.nodes) in
    c.loop-node.invariant.sum s version counts shows ∙ ap (λ (n : ℕ). sum_below n (λ node. departed_from s counts node c.args.boundary)) all
