use Rattle.std.proofs.Common.{refl}
use Rattle.ltm_curve.proofs.TotalPlaces.{same_everywhere}
use Rattle.ltm_curve.proofs.total_curves.TotalCurves.reserve.Goals as goal

pub returns-in_err-reserve_to-clause-totals : goal.returns-in_err-reserve_to-clause-totals
returns-in_err-reserve_to-clause-totals c = same_everywhere _ _ refl c.reserve_to.ensures.items refl

pub returns-in_err-reserve_to-2-clause-totals : goal.returns-in_err-reserve_to-2-clause-totals
returns-in_err-reserve_to-2-clause-totals c = same_everywhere _ _ refl c.reserve_to.ensures.items c.reserve_to-2.ensures.items

pub returns-clause-totals : goal.returns-clause-totals
returns-clause-totals c = same_everywhere _ _ refl c.reserve_to.ensures.items c.reserve_to-2.ensures.items
