use Rattle.std.proofs.Common.{◌∙◌, ◌≡◌, ℕ, ◌+◌, arith, ap}
use Rattle.ltm_units.proofs.Sums.{sum_below_more}
use Rattle.ltm_curve.specs.Counts.{total}
use Rattle.ltm_setting.specs.Setting.{setting_of}
use Rattle.ltm_flows.proofs.last_totals.generated_at_end.Goals as goal

pub loop-node-preserved : goal.loop-node-preserved
loop-node-preserved c =
    let s = setting_of c.args.scenario.now in
    let node : ℕ = c.loop-node.node in
    let made : c.produced_total-sum.result ≡ total s.destinations (s.produced node) s.slots =
    c.produced_total-sum.ensures.value ∙ ap (λ (k : ℕ). total s.destinations (s.produced node) k) c.slot_count-last.ensures.value in
    record {
      sum = omega (arith, sum_below_more (λ u. total s.destinations (s.produced u) s.slots) node, made, c.loop-node.invariant.sum);
      small = omega (
        arith,
        sum_below_more (λ u. total s.destinations (s.produced u) s.slots) node,
        made,
        c.loop-node.invariant.sum,
        c.little_is_produced.ensures.all (node + 1) s.slots,
      );
    }
