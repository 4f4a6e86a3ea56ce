use Rattle.ltm_setting.specs.Setting.{setting_of}
use Rattle.ltm_core.proofs.Cores.{core_cells_at}
use Rattle.ltm_core.proofs.the_core.Core.changed.Goals as goal

pub returns : goal.returns
returns c = core_cells_at _ _ c.changed.result c.self.view_is (c.changed.ensures (setting_of c.self.inside.scenario) c.self.invariant.0.ready)
