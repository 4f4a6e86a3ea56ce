use Rattle.ltm_setting.specs.Setting.{setting_of}
use Rattle.ltm_core.proofs.Cores.{core_claims_out_at, none_out_at}
use Rattle.ltm_core.proofs.the_core.Core.claimed.Goals as goal

pub returns-clause-count : goal.returns-clause-count
returns-clause-count c = core_claims_out_at _ _ c.claimed.result c.self.view_is c.self.invariant.0 (c.claimed.ensures (setting_of c.self.inside.scenario) c.self.invariant.0.ready)

pub returns-clause-none : goal.returns-clause-none
returns-clause-none c =
    none_out_at _ c.claimed.result (core_claims_out_at _ _ c.claimed.result c.self.view_is c.self.invariant.0 (c.claimed.ensures (setting_of c.self.inside.scenario) c.self.invariant.0.ready))
