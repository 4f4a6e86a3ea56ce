use Rattle.std.proofs.Common.{◌∙◌, ap, sym}
use Rattle.std.specs.Prelude.{slice_index}
use Rattle.std.specs.Option.{option_map_or}
use Rattle.ltm_splits.specs.Rows.{row_in_force, SplitsData}
use Rattle.ltm_setting.specs.Setting.{setting_of}
use Rattle.ltm_setting.proofs.readers.weights_stay.Goals as goal

pub returns-clause-stay : goal.returns-clause-stay
unfolding setting_of
returns-clause-stay c t j later before =
    let n = c.args.node.0 in
    let d' = c.args.destination in
    ap (λ o. option_map_or (λ weights. slice_index weights j) o 0)
    (ap (λ (d : SplitsData). row_in_force d.rows n d' t) (sym c.splits.ensures)
    ∙ c.stays_until.ensures.stays t later before
    ∙ ap (λ (d : SplitsData). row_in_force d.rows n d' c.args.slot) c.splits.ensures)
