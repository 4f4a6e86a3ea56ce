use Rattle.std.proofs.Common.{refl, arith}
use Rattle.ltm_curve.proofs.TotalPlaces.{sets_narrow, sets_last}
use Rattle.ltm_curve.proofs.total_curves.TotalCurves.set.Goals as goal

pub returns-then-group-self : goal.returns-then-group-self
returns-then-group-self c =
    sets_narrow c.args.self.now _ c.args.group c.args.boundary c.args.total c.place-at.result c.if-group-self.true refl refl c.place-at.ensures.place c.place-at.ensures.within refl refl

pub returns-else-group-self : goal.returns-else-group-self
returns-else-group-self c =
    sets_last c.args.self.now _ c.args.group c.args.boundary c.args.total c.requires.place c.if-group-self.false refl refl (omega (arith, c.args.self.now.last_long, c.requires.place.is_boundary)) refl refl
