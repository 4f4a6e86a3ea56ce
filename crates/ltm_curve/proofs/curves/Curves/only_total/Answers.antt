use Rattle.std.proofs.Common.{refl, length, ◌∙◌}
use Rattle.std.proofs.lemmas.List.{get_or_read_under}
use Rattle.ltm_curve.proofs.Places.{only_count, within_alone}
use Rattle.ltm_curve.proofs.curves.Curves.only_total.Goals as goal

pub returns : goal.returns
returns c =
    let within = within_alone c.args.self.now c.row_number-at.result c.requires.one c.row_number-at.ensures.within in
    only_count c.args.self.now c.args.group c.args.boundary c.row_number-at.result c.from.result c.requires.one c.row_number-at.ensures.number
    (c.from.ensures ∙ get_or_read_under c.args.self.now.counts.items c.row_number-at.result (length c.args.self.now.counts.items) c.index.result.now 0 c.index.ensures within refl)
