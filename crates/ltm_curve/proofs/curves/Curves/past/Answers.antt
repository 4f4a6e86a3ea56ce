use Rattle.std.proofs.Common.{arith}
use Rattle.ltm_curve.specs.Table.{total_of}
use Rattle.ltm_curve.proofs.Interpolation.{interpolated_from, interpolated_past_none}
use Rattle.ltm_curve.proofs.curves.Curves.past.Goals as goal

pub returns-then-rest-eq0 : goal.returns-then-rest-eq0
returns-then-rest-eq0 c =
    omega (arith, interpolated_past_none (total_of c.args.self.now c.args.group) c.args.step.0 c.args.boundary c.args.rest.0 c.requires.rest c.if-rest-eq0.true)

pub returns : goal.returns
returns c =
    interpolated_from (total_of c.args.self.now c.args.group) c.args.step.0 c.args.boundary c.args.rest.0 c.total-before.result c.total-after.result c.share_of.result c.requires.rest c.total-before.ensures.total c.total-after.ensures.total c.share_of.ensures.share
