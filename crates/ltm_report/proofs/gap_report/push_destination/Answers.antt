use Rattle.std.proofs.Common.{◌∙◌, ℕ, ap}
use Rattle.std.proofs.lemmas.Result.{on_ok_weaker}
use Rattle.ltm_network.specs.Network.{NetworkData, node_name}
use Rattle.ltm_scenario.specs.Reads.{destination_node}
use Rattle.ltm_setting.specs.Setting.{setting_of}
use Rattle.ltm_report.proofs.Gapped.{gap_to_told}
use Rattle.ltm_report.proofs.gap_report.push_destination.Goals as goal

pub returns : goal.returns
returns c =
    let s = c.args.scenario.now in
    let d : ℕ = c.args.destination in
    let named = c.node_name-name.ensures ∙ ap (λ (n : NetworkData). node_name n c.destination_node.result.0) c.network.ensures ∙ ap (node_name s.network) c.destination_node.ensures.node in
    on_ok_weaker c.gap_to_text.result
    (λ wrote counts shows. gap_to_told (setting_of s) counts d (node_name s.network (destination_node s d)) c.node_name-name.result c.spent_to-spent.result c.to.result c.args.into.now.items c.gap_to_text.new.into.items named
    (c.spent_to-spent.ensures 0 counts shows)
    (c.to.ensures (setting_of s) c.args.loading.now 0 counts c.requires.gaps shows) wrote)
    c.gap_to_text.ensures.ok
