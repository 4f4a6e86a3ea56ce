use Rattle.std.proofs.Common.{rules}
use Rattle.std.proofs.lemmas.Result.{on_ok_weaker}
use Rattle.ltm_loading.specs.Totals.{entered_link, left_link}
use Rattle.ltm_report.proofs.Rowed.{two_rows}
use Rattle.ltm_report.proofs.rows.push_passed.Goals as goal

pub returns : goal.returns
returns c =
    let boundary = c.args.boundary in
    on_ok_weaker c.push_row-2.result
    (λ wrote s version counts shows.
    two_rows c.links-links.result c.links-links.result _ _ _ _ _ _ _ _ _ c.links-links.ensures.value c.links-links.ensures.value
    (c.in_ok-push_row.ensures (λ link. entered_link s counts link boundary) (λ k n less post. search rules))
    (wrote (λ link. left_link s counts link boundary) (λ k n less post. search rules)))
    c.push_row-2.ensures
