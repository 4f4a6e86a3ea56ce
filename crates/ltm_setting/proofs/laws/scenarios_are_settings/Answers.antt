use Rattle.ltm_setting.proofs.AreSettings.{is_setting}
use Rattle.ltm_setting.proofs.laws.scenarios_are_settings.Goals as goal

pub returns : goal.returns
returns c = λ s is. is_setting s (c.links_at_their_places.ensures s.network) c.limits_in_range.ensures c.production_never_falls.ensures.rises is
