use Rattle.std.proofs.Common.{◌≤◌, ◌+◌, arith, ap, sym, subst, ◌∙◌}
use Rattle.std.specs.Prelude.{option_and_then}
use Rattle.ltm_curve.specs.TotalCurves.{total_at}
use Rattle.ltm_loading.specs.Setting.{Setting}
use Rattle.ltm_setting.specs.Setting.{setting_of}
use Rattle.ltm_flows.specs.declared.loading.Loading.{Loading}
use Rattle.ltm_flows.specs.Shown.{curves_of, last_of, step_of}
use Rattle.ltm_gap.specs.Steps.{first_out}
use Rattle.ltm_gap.proofs.Reaching.{is_reached, leaves_as_read, small_product}
use Rattle.ltm_gap.proofs.leaving.leaves_from.Goals as goal

pub lets_out-requires-clause-behind : goal.lets_out-requires-clause-behind
lets_out-requires-clause-behind c =
    let s : Setting = setting_of c.args.scenario.now in
    let l : Loading = c.args.loading.now in
    let h = is_reached (total_at (curves_of l) c.down_of.result) (step_of l) (last_of l) c.total_at-before.result (c.args.entry.0 + c.limits.result.free_ms) c.in-Some.free.0 (sym c.in-Some.ensures) in
    let long = c.is_setting.ensures.setting.free_time c.args.link.0 c.requires.link in
    let some = c.is_setting.ensures.setting.some_step in
    let free = c.limits.ensures.free_time in
    omega (arith, h.behind)

pub lets_out-requires-clause-small : goal.lets_out-requires-clause-small
lets_out-requires-clause-small c =
    let s : Setting = setting_of c.args.scenario.now in
    let l : Loading = c.args.loading.now in
    let h = is_reached (total_at (curves_of l) c.down_of.result) (step_of l) (last_of l) c.total_at-before.result (c.args.entry.0 + c.limits.result.free_ms) c.in-Some.free.0 (sym c.in-Some.ensures) in
    let few : last_of l ≤ 10000 = subst (λ n. n ≤ 10000) (sym c.requires.suits.slots) c.is_setting.ensures.setting.small.few_slots in
    let short : step_of l ≤ 60000 = subst (λ n. n ≤ 60000) (sym c.requires.suits.step) (subst (λ n. n ≤ 60000) c.step-step.ensures.value c.step-step.ensures.small) in
    omega (arith, h.within, small_product (last_of l) (step_of l) few short)

pub returns-in-None : goal.returns-in-None
returns-in-None c =
    sym (leaves_as_read (setting_of c.args.scenario.now) c.args.loading.now c.args.link.0 c.args.entry.0 c.total_at-before.result c.up_of.result c.down_of.result c.limits.result.free_ms
    c.is_setting.ensures.setting.some_step c.requires.suits c.requires.link c.curves-curves.ensures.groups c.curves-curves.ensures.rises c.total_at-before.ensures c.up_of.ensures c.down_of.ensures c.limits.ensures.free_time
    ∙ ap (option_and_then (first_out (setting_of c.args.scenario.now) c.args.link.0)) (sym c.in-None.ensures))

pub returns-in-Some : goal.returns-in-Some
returns-in-Some c =
    c.lets_out.ensures ∙ sym (leaves_as_read (setting_of c.args.scenario.now) c.args.loading.now c.args.link.0 c.args.entry.0 c.total_at-before.result c.up_of.result c.down_of.result c.limits.result.free_ms
    c.is_setting.ensures.setting.some_step c.requires.suits c.requires.link c.curves-curves.ensures.groups c.curves-curves.ensures.rises c.total_at-before.ensures c.up_of.ensures c.down_of.ensures c.limits.ensures.free_time
    ∙ ap (option_and_then (first_out (setting_of c.args.scenario.now) c.args.link.0)) (sym c.in-Some.ensures))
