use Rattle.std.proofs.Common.{ℕ, subst}
use Rattle.ltm_setting.specs.Setting.{setting_of}
use Rattle.ltm_used.specs.Found.{GoesOn}
use Rattle.ltm_used.proofs.closing.visit.Goals as goal

pub returns-clause-done : goal.returns-clause-done
returns-clause-done c =
    subst (λ (z : ℕ). GoesOn (setting_of c.args.scenario.now) c.args.goes.now c.go_on.new.found z c.args.destination) c.head-node.ensures.node c.in_ok-go_on.ensures.done
