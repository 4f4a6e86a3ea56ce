use Rattle.std.proofs.Common.{arith}
use Rattle.ltm_curve.specs.Table.{destinations_of, counts_of}
use Rattle.ltm_curve.proofs.Firsts.{part_inside}
use Rattle.ltm_curve.proofs.group.Group.write_first_two.Goals as goal

pub write_mixed_two-requires-clause-part : goal.write_mixed_two-requires-clause-part
write_mixed_two-requires-clause-part c =
    let within = part_inside (destinations_of c.args.self.now.curves.now) (counts_of c.args.self.now.curves.now c.args.self.now.group) c.args.n c.args.last c.args.end c.requires.units c.requires.end (omega (arith, c.requires.part)) in
    omega (arith, within, c.requires.part)
