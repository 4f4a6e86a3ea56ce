use Rattle.std.proofs.Common.{List}
use Rattle.ltm_units.specs.declared.places.LinkId.{LinkId}
use Rattle.ltm_setting.specs.Setting.{setting_of}
use Rattle.ltm_gap.proofs.Out.{AreOuts, leaves, left_at}
use Rattle.ltm_gap.proofs.search.PassedLinks.leaving.Goals as goal

pub returns : goal.returns
returns c =
    let s = setting_of c.args.self.now.scenario.now in
    let links : List LinkId = c.out_links.result.now in
    let are : AreOuts s c.args.node.0 links = record { network = c.is_setting.ensures.setting.network; there = c.requires.node; count = c.out_links.ensures.count; each = c.out_links.ensures.links } in
    record {
      each = λ i d low. leaves s c.args.node.0 links i d are low;
      all = λ link low at. left_at s c.args.node.0 links link are low at;
    }
