use Rattle.std.proofs.Common.{◌∙◌, ◌++◌, List, ℕ, ap}
use Rattle.std.proofs.lemmas.Result.{on_ok_weaker}
use Rattle.ltm_network.specs.Network.{NetworkData, link_name}
use Rattle.ltm_setting.specs.Setting.{setting_of}
use Rattle.ltm_report.specs.Sampled.{passed_report}
use Rattle.ltm_report.proofs.sampled_report.push_link.Goals as goal

pub returns : goal.returns
returns c =
    let setting = setting_of c.args.scenario.now in
    let link : ℕ = c.args.link.0 in
    let named = c.link_name-name.ensures ∙ ap (λ (n : NetworkData). link_name n link) c.network.ensures in
    on_ok_weaker c.passed_text.result
    (λ wrote counts shows. wrote setting 0 counts shows ∙ ap (λ (name : List ℕ). c.args.into.now.items ++ passed_report c.args.every name link setting counts) named)
    c.passed_text.ensures.ok
