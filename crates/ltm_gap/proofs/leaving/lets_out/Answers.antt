use Rattle.std.proofs.Common.{◌≤◌, ◌-◌, ◌/◌, refl, arith, sym}
use Rattle.ltm_loading.specs.Setting.{Setting}
use Rattle.ltm_setting.specs.Setting.{setting_of}
use Rattle.ltm_gap.proofs.Opening.{open_past, out_none, out_some}
use Rattle.ltm_gap.proofs.leaving.lets_out.Goals as goal

pub returns-then-slot-from : goal.returns-then-slot-from
returns-then-slot-from c =
    let s : Setting = setting_of c.args.scenario.now in
    let past : s.slots ≤ (c.args.moment.0 - 1) / c.step-step.result.0 = omega arith in
    out_none s c.args.link.0 c.args.moment.0 c.step-step.result.0 c.requires.behind c.step-step.ensures.value
    (sym (open_past (s.exit_limit c.args.link.0) c.step-step.result.0 s.slots (c.args.moment.0 - 1) past))

pub returns-in-None : goal.returns-in-None
returns-in-None c =
    let s : Setting = setting_of c.args.scenario.now in
    out_none s c.args.link.0 c.args.moment.0 c.step-step.result.0 c.requires.behind c.step-step.ensures.value
    (c.in-None.ensures.moment (s.exit_limit c.args.link.0) s.slots (omega arith) refl (omega arith) c.next_exit.ensures)

pub returns-in-Some : goal.returns-in-Some
returns-in-Some c =
    let s : Setting = setting_of c.args.scenario.now in
    out_some s c.args.link.0 c.args.moment.0 c.step-step.result.0 c.in-Some.opened.0 c.requires.behind c.step-step.ensures.value
    (c.in-Some.ensures.moment (s.exit_limit c.args.link.0) s.slots (omega arith) refl (omega arith) c.next_exit.ensures)
