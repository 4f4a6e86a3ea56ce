use Rattle.ltm_setting.specs.Setting.{setting_of}
use Rattle.ltm_pairs.specs.Adding.{Adds}
use Rattle.ltm_pairs.specs.Dependents.{depends_on_left}
use Rattle.ltm_pairs.proofs.commits.add_tails.Given as goal

abbrev pub invariant-loop-place : goal.invariant-loop-place
invariant-loop-place l =
    Adds (setting_of l.scenario) l.boundary l.place l.initial.into l.into (depends_on_left (setting_of l.scenario) l.fn.node.0 l.boundary l.arms l.place)
