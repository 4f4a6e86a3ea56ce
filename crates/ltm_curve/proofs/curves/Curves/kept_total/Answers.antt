use Rattle.std.proofs.Common.{◌≡◌, ◌<◌, length, slice_index, refl, arith}
use Rattle.std.proofs.lemmas.List.{get_or_read_under}
use Rattle.ltm_curve.proofs.Kept.{kept_is}
use Rattle.ltm_curve.proofs.curves.Curves.kept_total.Goals as goal

pub returns : goal.returns
returns c =
    let within : c.row_number.result < length c.args.self.now.totals.items = omega (arith, c.row_number.ensures.within, c.args.self.now.all_totals c.requires.several) in
    let read : c.index-kept.result.now ≡ slice_index c.args.self.now.totals.items c.row_number.result =
    get_or_read_under c.args.self.now.totals.items c.row_number.result (length c.args.self.now.totals.items) c.index-kept.result.now 0 c.index-kept.ensures within refl in
    omega (arith, c.from.ensures, c.if-kept.false, read, kept_is c.args.self.now c.args.group c.args.boundary c.row_number.result c.requires.several c.row_number.ensures.number c.row_number.ensures.within)
