use Rattle.std.proofs.Common.{arith}
use Rattle.ltm_curve.specs.Table.{destinations_of, counts_of}
use Rattle.ltm_working.proofs.Counted.{sum_fits, two_sums, fits_sums, renews_sums}
use Rattle.ltm_working.proofs.differing.renew_two.Goals as goal

pub overflow_add-first : goal.overflow_add-first
overflow_add-first c = sum_fits c.args.curves.now c.args.changed.now c.args.group c.args.slot _ 0 c.row-before.result.now c.args.moves.now c.requires.row (omega (arith, c.requires.two)) c.row-before.ensures.counts c.from.ensures

pub overflow_add-second : goal.overflow_add-second
overflow_add-second c = sum_fits c.args.curves.now c.args.changed.now c.args.group c.args.slot _ 1 c.row-before.result.now c.args.moves.now c.requires.row (omega (arith, c.requires.two)) c.row-before.ensures.counts c.from-2.ensures

pub renew_row-requires : goal.renew_row-requires
renew_row-requires c = fits_sums c.args.curves.now c.args.changed.now c.args.group c.args.slot _ c.args.moves.now
    (two_sums (counts_of c.args.curves.now) c.args.group c.args.slot (destinations_of c.args.curves.now) _ _ c.row-before.result.now c.args.moves.now c.requires.two c.requires.row.count c.row-before.ensures.counts c.from.ensures c.from-2.ensures) c.requires.row

pub returns : goal.returns
returns c = renews_sums c.args.curves.now _ c.args.changed.now _ c.args.group c.args.slot _ c.args.moves.now _
    (two_sums (counts_of c.args.curves.now) c.args.group c.args.slot (destinations_of c.args.curves.now) _ _ c.row-before.result.now c.args.moves.now c.requires.two c.requires.row.count c.row-before.ensures.counts c.from.ensures c.from-2.ensures) c.renew_row.ensures
