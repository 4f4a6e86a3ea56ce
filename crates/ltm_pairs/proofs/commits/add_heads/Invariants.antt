use Rattle.std.proofs.Common.{◌&&◌, nat_le}
use Rattle.ltm_setting.specs.Setting.{setting_of}
use Rattle.ltm_pairs.specs.Adding.{Adds}
use Rattle.ltm_pairs.specs.Dependents.{depends_on_entered}
use Rattle.ltm_pairs.proofs.commits.add_heads.Given as goal

abbrev pub invariant-loop-place : goal.invariant-loop-place
invariant-loop-place l =
    Adds (setting_of l.scenario) l.boundary l.place l.initial.into l.into
    (λ w v. nat_le l.boundary v && depends_on_entered (setting_of l.scenario) l.fn.node.0 l.outs l.place w)
