use Rattle.std.proofs.Common.{refl}
use Rattle.ltm_curve.proofs.TotalPlaces.{kept_in, none_past}
use Rattle.ltm_curve.proofs.total_curves.TotalCurves.lengthen.Goals as goal

pub returns-clause-kept : goal.returns-clause-kept
returns-clause-kept c = λ g k x. kept_in c.args.self.now _ _ _ g k refl c.fill_to.ensures.items c.fill_to-2.ensures.items x

pub returns-clause-empty : goal.returns-clause-empty
returns-clause-empty c = λ g k x l. none_past c.args.self.now _ _ _ g k refl c.fill_to.ensures.items c.fill_to-2.ensures.items l
