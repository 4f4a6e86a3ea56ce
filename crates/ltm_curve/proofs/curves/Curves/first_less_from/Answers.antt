use Rattle.ltm_curve.specs.Table.{destinations_of, counts_of}
use Rattle.ltm_curve.proofs.Firsts.{end_within, end_below}
use Rattle.ltm_curve.proofs.curves.Curves.first_less_from.Goals as goal

pub first_less_at-requires-clause-below : goal.first_less_at-requires-clause-below
first_less_at-requires-clause-below c =
    end_below (destinations_of c.args.self.now) (counts_of c.args.self.now c.args.units.group) c.args.units.count c.args.units.last c.args.units.end c.requires.units.part c.requires.units.end

pub first_less_at-requires-clause-within : goal.first_less_at-requires-clause-within
first_less_at-requires-clause-within c =
    end_within (destinations_of c.args.self.now) (counts_of c.args.self.now c.args.units.group) c.args.units.count c.args.units.last c.args.units.end c.requires.units.part c.requires.units.end
