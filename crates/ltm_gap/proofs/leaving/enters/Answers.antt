use Rattle.std.proofs.Common.{◌≤◌, ◌/◌, arith, sym, subst}
use Rattle.ltm_setting.specs.Setting.{setting_of}
use Rattle.ltm_gap.proofs.Opening.{open_past}
use Rattle.ltm_gap.proofs.leaving.enters.Goals as goal

pub returns-then-slot-from : goal.returns-then-slot-from
returns-then-slot-from c =
    let past : (setting_of c.args.scenario.now).slots ≤ c.args.moment.0 / c.step-step.result.0 = omega arith in
    sym (open_past ((setting_of c.args.scenario.now).entry_limit c.args.link.0) (setting_of c.args.scenario.now).step (setting_of c.args.scenario.now).slots c.args.moment.0
    (subst (λ n. (setting_of c.args.scenario.now).slots ≤ c.args.moment.0 / n) c.step-step.ensures.value past))
