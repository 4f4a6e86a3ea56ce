use Rattle.std.proofs.Common.{◌∙◌, ◌≡◌, ◌-◌, ℕ, arith, ap}
use Rattle.ltm_units.proofs.Sums.{sum_below_more}
use Rattle.ltm_loading.specs.Groups.{up_of, down_of}
use Rattle.ltm_flows.proofs.sums.on_links.Goals as goal

pub loop-link-preserved : goal.loop-link-preserved
loop-link-preserved g c =
    let total : ℕ → ℕ = λ i. g.T.GroupTotals.totals c.args.totals.now i c.args.boundary in
    let link : ℕ = c.loop-link.link in
    let up : c.group_total-entered.result ≡ total (up_of link) = c.group_total-entered.ensures.total ∙ ap total c.up_of.ensures in
    let down : c.group_total-left.result ≡ total (down_of link) = c.group_total-left.ensures.total ∙ ap total c.down_of.ensures in
    record {
      sum = omega (arith, sum_below_more (λ i. total (up_of i) - total (down_of i)) link, up, down, c.saturating_sub-sum.ensures, c.loop-link.invariant.sum);
      small = omega (arith, c.group_total-entered.ensures.small, c.saturating_sub-sum.ensures, c.loop-link.invariant.small);
    }
