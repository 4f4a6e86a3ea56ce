use Rattle.std.proofs.lemmas.Result.{on_ok_weaker}
use Rattle.std.proofs.Common.{◌∙◌, ◌≡◌, ◌++◌, ℕ, List, ap}
use Rattle.ltm_curve.specs.Counts.{Counts}
use Rattle.ltm_curve.specs.Table.{counts_of}
use Rattle.ltm_loading.specs.Groups.{up_of, down_of}
use Rattle.ltm_loading.specs.Totals.{entered_link, left_link}
use Rattle.ltm_network.specs.Network.{NetworkData, link_name}
use Rattle.ltm_setting.specs.Setting.{setting_of}
use Rattle.ltm_report.specs.Reports.{load_link_report}
use Rattle.ltm_report.proofs.Reported.{load_link_is, total_at_end}
use Rattle.ltm_report.proofs.load.push_link.Goals as goal

pub returns : goal.returns
returns c =
    let setting = setting_of c.args.scenario.now in
    let curves = c.args.curves.now in
    let counts : Counts = counts_of curves in
    let link : ℕ = c.args.link.0 in
    let named = c.link_name-name.ensures ∙ ap (λ (n : NetworkData). link_name n link) c.network.ensures in
    let came : c.total-entered.result ≡ entered_link setting counts link setting.slots =
    c.total-entered.ensures.total ∙ total_at_end setting curves c.up_of.result (up_of link) c.slots-last.result c.requires.shape c.up_of.ensures c.slots-last.ensures in
    let went : c.total-left.result ≡ left_link setting counts link setting.slots =
    c.total-left.ensures.total ∙ total_at_end setting curves c.down_of.result (down_of link) c.slots-last.result c.requires.shape c.down_of.ensures c.slots-last.ensures in
    on_ok_weaker c.load_link_line_text.result
    (λ wrote. load_link_is setting counts link _ c.total-entered.result c.total-left.result _ _ came went wrote ∙ ap (λ (name : List ℕ). c.args.into.now.items ++ load_link_report name link setting counts) named)
    c.load_link_line_text.ensures.ok
