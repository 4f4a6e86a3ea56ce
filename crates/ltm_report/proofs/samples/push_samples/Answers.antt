use Rattle.std.proofs.lemmas.Result.{on_ok_weaker}
use Rattle.ltm_report.proofs.Telling.{samples_told}
use Rattle.ltm_report.proofs.samples.push_samples.Goals as goal

pub returns : goal.returns
returns c =
    on_ok_weaker c.push_newline.result
    (samples_told c.args.loading.now c.version.result c.args.every c.told_boundaries-many.result c.slots.result _ _ _ _ _ _ _
    c.version.ensures c.told_boundaries-many.ensures c.slots.ensures c.in_ok-push_version.ensures c.in_ok-push_every.ensures
    c.in_ok-push_entered.ensures c.in_ok-push_left.ensures c.in_ok-push_departed.ensures)
    c.push_newline.ensures
