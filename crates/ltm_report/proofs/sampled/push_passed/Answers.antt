use Rattle.std.proofs.Common.{rules}
use Rattle.std.proofs.lemmas.Result.{on_ok_weaker}
use Rattle.ltm_loading.specs.Totals.{entered_link, left_link}
use Rattle.ltm_report.specs.Sampled.{told_at}
use Rattle.ltm_report.proofs.Telling.{passed_told}
use Rattle.ltm_report.proofs.sampled.push_passed.Goals as goal

pub returns : goal.returns
returns c =
    on_ok_weaker c.push_newline.result
    (passed_told c.args.loading.now c.args.name.now c.args.every c.args.link.0 c.told_boundaries-many.result c.slots.result _ _ _ _ _
    c.told_boundaries-many.ensures c.slots.ensures c.in_ok-push_name.ensures
    (λ s version counts shows. c.in_ok-push_row.ensures (λ place. entered_link s counts c.args.link.0 (told_at c.args.every s.slots place)) (λ k n less post. search rules))
    (λ s version counts shows. c.in_ok-push_row-2.ensures (λ place. left_link s counts c.args.link.0 (told_at c.args.every s.slots place)) (λ k n less post. search rules)))
    c.push_newline.ensures
