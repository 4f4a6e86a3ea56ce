use Rattle.std.proofs.Common.{◌∙◌, ◌++◌, List, ℕ, ap}
use Rattle.std.proofs.lemmas.Result.{on_ok_weaker}
use Rattle.ltm_network.specs.Network.{NetworkData, node_name}
use Rattle.ltm_setting.specs.Setting.{setting_of}
use Rattle.ltm_report.specs.Sampled.{departed_report}
use Rattle.ltm_report.proofs.sampled_report.push_node.Goals as goal

pub returns : goal.returns
returns c =
    let setting = setting_of c.args.scenario.now in
    let node : ℕ = c.args.node.0 in
    let named = c.node_name-name.ensures ∙ ap (λ (n : NetworkData). node_name n node) c.network.ensures in
    on_ok_weaker c.departed_text.result
    (λ wrote counts shows. wrote setting 0 counts shows ∙ ap (λ (name : List ℕ). c.args.into.now.items ++ departed_report c.args.every name node setting counts) named)
    c.departed_text.ensures.ok
