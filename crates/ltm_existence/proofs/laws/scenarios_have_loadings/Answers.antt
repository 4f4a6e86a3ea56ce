use Rattle.ltm_setting.specs.Setting.{setting_of}
use Rattle.ltm_existence.proofs.laws.scenarios_have_loadings.Goals as goal

pub returns : goal.returns
returns c = λ s is. c.there_is_a_loading.ensures (setting_of s) (c.scenarios_are_settings.ensures s is)
