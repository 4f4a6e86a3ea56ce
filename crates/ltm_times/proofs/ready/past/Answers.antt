use Rattle.std.proofs.Common.{◌∙◌, sym}
use Rattle.ltm_curve.specs.TotalCurves.{total_at}
use Rattle.ltm_curve.proofs.Interpolation.{interpolated_past_none, interpolated_from}
use Rattle.ltm_times.proofs.ready.past.Goals as goal

pub returns-then-rest-eq0-clause-total : goal.returns-then-rest-eq0-clause-total
returns-then-rest-eq0-clause-total c =
    c.total-before.ensures.total
    ∙ sym (interpolated_past_none (total_at c.args.curves.now c.args.group) c.args.step.0 c.args.boundary c.args.rest.0 c.requires.rest c.if-rest-eq0.true)

pub returns-clause-total : goal.returns-clause-total
returns-clause-total c =
    interpolated_from (total_at c.args.curves.now c.args.group) c.args.step.0 c.args.boundary c.args.rest.0
    c.total-before.result c.total-after.result c.share_of.result
    c.requires.rest c.total-before.ensures.total c.total-after.ensures.total c.share_of.ensures.share
