use Rattle.std.proofs.Common.{ℕ, subst}
use Rattle.ltm_curve.specs.declared.curves.Curves.{Curves}
use Rattle.ltm_curve.specs.Table.{counts_of, total_of}
use Rattle.ltm_setting.specs.Setting.{setting_of}
use Rattle.ltm_flows.specs.InAll.{AreSums}
use Rattle.ltm_flows.proofs.Showing.{shaped_total, sums_are_totals}
use Rattle.ltm_flows.proofs.last_totals.totals_at_end.Goals as goal

pub returns : goal.returns
returns c =
    let s = setting_of c.args.scenario.now in
    let curves : Curves = c.args.curves.now in
    let sums = subst (λ (k : ℕ). AreSums (total_of curves) c.link_count-links.result c.node_count-nodes.result k c.generated_at_end-generated.result c.sum_up.result) c.slot_count.ensures.value c.sum_up.ensures in
    sums_are_totals s (counts_of curves) (total_of curves) c.link_count-links.result c.node_count-nodes.result s.slots c.generated_at_end-generated.result c.sum_up.result c.link_count-links.ensures.value c.node_count-nodes.ensures.value c.generated_at_end-generated.ensures
    (λ g x. shaped_total s curves g s.slots c.requires) sums
