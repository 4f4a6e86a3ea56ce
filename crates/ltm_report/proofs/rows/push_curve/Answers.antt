use Rattle.std.proofs.Common.{rules}
use Rattle.std.proofs.lemmas.Result.{on_ok_weaker}
use Rattle.ltm_loading.specs.Totals.{entered_link, left_link}
use Rattle.ltm_report.proofs.Rowed.{curve_told}
use Rattle.ltm_report.proofs.rows.push_curve.Goals as goal

pub returns : goal.returns
returns c =
    on_ok_weaker c.push_newline.result
    (curve_told c.args.loading.now c.args.name.now c.args.link.0 c.version.result c.slots-boundaries.result _ _ _ _ _ _ _
    c.version.ensures c.slots-boundaries.ensures c.in_ok-push_version.ensures c.in_ok-push_text.ensures.ok c.in_ok-push_name.ensures
    (λ s version counts shows. c.in_ok-push_row.ensures (entered_link s counts c.args.link.0) (λ k n less post. search rules))
    (λ s version counts shows. c.in_ok-push_row-2.ensures (left_link s counts c.args.link.0) (λ k n less post. search rules)))
    c.push_newline.ensures
