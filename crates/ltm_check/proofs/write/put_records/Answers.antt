use Rattle.std.proofs.Common.{arith}
use Rattle.ltm_curve.specs.Table.{counts_of}
use Rattle.ltm_setting.specs.Setting.{setting_of}
use Rattle.ltm_check.specs.Seen.{curves_of}
use Rattle.ltm_check.specs.Text.{record_text, group_text}
use Rattle.ltm_check.proofs.Passing.{text_on, text_stops, on_err}
use Rattle.ltm_check.proofs.write.put_records.Goals as goal

pub returns-in_err-put_record-clause-err : goal.returns-in_err-put_record-clause-err
unfolding group_text
returns-in_err-put_record-clause-err g c =
    on_err c.from_residual.result _
    (text_stops c.args.waiting.now.items c.loop-destination.destination (setting_of c.args.scenario.now).destinations (record_text c.args.scenario.now (counts_of (curves_of c.args.window.now)) c.args.group) _ _ _ _ (omega (arith, c.loop-destination-test.true, c.destination_count-destination-end.ensures)) c.loop-destination.invariant.0 c.in_err-put_record.ensures.err)

pub loop-destination-preserved : goal.loop-destination-preserved
loop-destination-preserved g c = (
  text_on c.args.waiting.now.items c.loop-destination.destination (record_text c.args.scenario.now (counts_of (curves_of c.args.window.now)) c.args.group) _ _ _ _ _ c.loop-destination.invariant.0 c.in_ok-put_record.ensures.ok,
  omega (arith, c.loop-destination.invariant.1, c.in_ok-put_record.ensures.later),
)
