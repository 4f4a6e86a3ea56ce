use Rattle.std.proofs.Common.{sym, ap, ◌∙◌}
use Rattle.ltm_splits.specs.Rows.{SplitsData, row_in_force}
use Rattle.ltm_splits.specs.Entries.{entry_in_force}
use Rattle.ltm_splits.proofs.Pairs.{force_all}
use Rattle.ltm_splits.proofs.splits.Splits.stays_until.Goals as goal

pub returns-in-Some-clause-stays : goal.returns-in-Some-clause-stays
returns-in-Some-clause-stays c u later before =
    let n = c.args.node.0 in
    let d' = c.args.destination in
    let same = c.stays_until.ensures.stays u later before in
    ap (λ (v : SplitsData). row_in_force v.rows n d' u) (sym c.self.view_is)
    ∙ force_all n d' u c.self.inside.table
    ∙ ap (λ es. entry_in_force es u) (sym c.in-Some.ensures)
    ∙ same
    ∙ ap (λ es. entry_in_force es c.args.slot) c.in-Some.ensures
    ∙ sym (force_all n d' c.args.slot c.self.inside.table)
    ∙ ap (λ (v : SplitsData). row_in_force v.rows n d' c.args.slot) c.self.view_is

pub returns-in-None-clause-stays : goal.returns-in-None-clause-stays
returns-in-None-clause-stays c u later before =
    let n = c.args.node.0 in
    let d' = c.args.destination in
    ap (λ (v : SplitsData). row_in_force v.rows n d' u) (sym c.self.view_is)
    ∙ force_all n d' u c.self.inside.table
    ∙ ap (λ es. entry_in_force es u) (sym c.in-None.ensures)
    ∙ ap (λ es. entry_in_force es c.args.slot) c.in-None.ensures
    ∙ sym (force_all n d' c.args.slot c.self.inside.table)
    ∙ ap (λ (v : SplitsData). row_in_force v.rows n d' c.args.slot) c.self.view_is
