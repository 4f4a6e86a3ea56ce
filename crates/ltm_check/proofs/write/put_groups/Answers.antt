use Rattle.std.proofs.Common.{◌≡◌, arith, ◌∙◌}
use Rattle.ltm_curve.specs.Table.{counts_of}
use Rattle.ltm_loading.specs.Groups.{groups}
use Rattle.ltm_setting.specs.Setting.{setting_of}
use Rattle.ltm_check.specs.Seen.{curves_of}
use Rattle.ltm_check.specs.Text.{group_text}
use Rattle.ltm_check.proofs.Passing.{text_on, text_stops, on_err}
use Rattle.ltm_check.proofs.write.put_groups.Goals as goal

pub returns-clause-ok : goal.returns-clause-ok
returns-clause-ok g c =
    let all : c.loop-group.group ≡ groups (setting_of c.args.scenario.now) = omega (arith, c.loop-group-test.false, c.loop-group.auto.group-end, c.group_count-group-end.ensures.count) in
    rw all at c.loop-group.invariant.0

pub returns-in_err-put_group-clause-err : goal.returns-in_err-put_group-clause-err
returns-in_err-put_group-clause-err g c =
    on_err c.from_residual.result _
    (text_stops c.args.waiting.now.items c.loop-group.group (groups (setting_of c.args.scenario.now)) (group_text c.args.scenario.now (counts_of (curves_of c.args.window.now))) _ _ _ _ (omega (arith, c.loop-group-test.true, c.group_count-group-end.ensures.count)) c.loop-group.invariant.0 (rw c.loop-group.invariant.2 at c.in_err-put_group.ensures.err))

pub loop-group-preserved : goal.loop-group-preserved
loop-group-preserved g c = (
  text_on c.args.waiting.now.items c.loop-group.group (group_text c.args.scenario.now (counts_of (curves_of c.args.window.now))) _ _ _ _ _ c.loop-group.invariant.0 (rw c.loop-group.invariant.2 at c.in_ok-put_group.ensures.ok),
  omega (arith, c.loop-group.invariant.1, c.in_ok-put_group.ensures.later),
  c.put_group.ensures.same ∙ c.loop-group.invariant.2,
)
