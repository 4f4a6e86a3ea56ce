use Rattle.std.proofs.Common.{arith}
use Rattle.ltm_curve.specs.Table.{destinations_of, counts_of}
use Rattle.ltm_curve.proofs.Firsts.{end_within, end_below}
use Rattle.ltm_curve.proofs.curves.Curves.first_less_two.Goals as goal

pub both_total-requires-clause-boundary : goal.both_total-requires-clause-boundary
both_total-requires-clause-boundary c =
    omega (
      arith,
      c.requires.units.last,
      end_below (destinations_of c.args.self.now) (counts_of c.args.self.now c.args.units.group) c.args.units.count c.args.units.last c.args.units.end c.requires.units.part c.requires.units.end,
    )

pub overflow_sub-part : goal.overflow_sub-part
overflow_sub-part c =
    omega (
      arith,
      c.both_total.ensures,
      end_within (destinations_of c.args.self.now) (counts_of c.args.self.now c.args.units.group) c.args.units.count c.args.units.last c.args.units.end c.requires.units.part c.requires.units.end,
    )

pub write_first_two-requires-clause-below : goal.write_first_two-requires-clause-below
write_first_two-requires-clause-below c =
    end_below (destinations_of c.args.self.now) (counts_of c.args.self.now c.args.units.group) c.args.units.count c.args.units.last c.args.units.end c.requires.units.part c.requires.units.end
