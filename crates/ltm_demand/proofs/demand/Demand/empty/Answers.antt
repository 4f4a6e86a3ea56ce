use Rattle.std.proofs.Common.{sym, subst}
use Rattle.ltm_demand.specs.Kept.{IsKept}
use Rattle.ltm_demand.proofs.KeptOrigins.{kept_nothing}
use Rattle.ltm_demand.proofs.demand.Demand.empty.Goals as goal

pub invariant_of-result : goal.invariant_of-result
invariant_of-result c = subst (IsKept c.args.slots c.args.most_rows c.args.tabled 0) (sym c.new.ensures.items) (kept_nothing c.args.slots c.args.most_rows c.args.tabled c.requires)
