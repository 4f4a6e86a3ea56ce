use Rattle.std.proofs.Common.{arith}
use Rattle.ltm_curve.specs.Table.{destinations_of, counts_of}
use Rattle.ltm_working.proofs.Counted.{sum_fits, one_sum, fits_sums, renews_sums}
use Rattle.ltm_working.proofs.differing.renew_one.Goals as goal

pub overflow_add-only : goal.overflow_add-only
overflow_add-only c = sum_fits c.args.curves.now c.args.changed.now c.args.group c.args.slot _ 0 c.row-before.result.now c.args.moves.now c.requires.row (omega (arith, c.requires.one)) c.row-before.ensures.counts c.from.ensures

pub renew_row-requires : goal.renew_row-requires
renew_row-requires c = fits_sums c.args.curves.now c.args.changed.now c.args.group c.args.slot _ c.args.moves.now
    (one_sum (counts_of c.args.curves.now) c.args.group c.args.slot (destinations_of c.args.curves.now) _ c.row-before.result.now c.args.moves.now c.requires.one c.requires.row.count c.row-before.ensures.counts c.from.ensures) c.requires.row

pub returns : goal.returns
returns c = renews_sums c.args.curves.now _ c.args.changed.now _ c.args.group c.args.slot _ c.args.moves.now _
    (one_sum (counts_of c.args.curves.now) c.args.group c.args.slot (destinations_of c.args.curves.now) _ c.row-before.result.now c.args.moves.now c.requires.one c.requires.row.count c.row-before.ensures.counts c.from.ensures) c.renew_row.ensures
