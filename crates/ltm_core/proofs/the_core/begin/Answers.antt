use Rattle.std.proofs.Common.{subst}
use Rattle.ltm_curve.specs.Counts.{Counts}
use Rattle.ltm_loading.specs.Loading.{IsLoading}
use Rattle.ltm_setting.specs.Setting.{setting_of}
use Rattle.ltm_core.proofs.the_core.begin.Goals as goal

pub create-requires-2-clause-loading : goal.create-requires-2-clause-loading
create-requires-2-clause-loading c =
    subst (λ (z : Counts). IsLoading (setting_of c.args.scenario.now) z) (c.curves.ensures.counts (setting_of c.args.scenario.now)) c.in_ok-table.ensures.loading

pub returns-clause-shown : goal.returns-clause-shown
returns-clause-shown c = (_, c.in_ok-shown.ensures)
