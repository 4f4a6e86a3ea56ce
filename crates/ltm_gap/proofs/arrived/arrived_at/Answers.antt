use Rattle.std.proofs.Common.{◌∙◌}
use Rattle.ltm_setting.specs.Setting.{setting_of}
use Rattle.ltm_gap.proofs.Staying.{stayed_shown}
use Rattle.ltm_gap.proofs.arrived.arrived_at.Goals as goal

pub returns : goal.returns
returns c = λ v counts shows.
    c.saturating_sub.ensures
    ∙ stayed_shown (setting_of c.args.scenario.now) v counts c.args.loading.now c.args.destination c.place_of-node.result.0 c.args.boundary c.came_to-came.result c.went_on.result c.came_and_stayed.ensures c.is_setting.ensures.setting shows
    c.requires.destination c.requires.boundary c.place_of-node.ensures.node c.came_to-came.ensures c.went_on.ensures
