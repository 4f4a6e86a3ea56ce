use Rattle.std.proofs.Common.{sym, subst}
use Rattle.ltm_network.specs.Found.{AreFound}
use Rattle.ltm_network.proofs.Finding.{fewer}
use Rattle.ltm_network.proofs.names.Names.truncate.Goals as goal

pub invariant_of-self : goal.invariant_of-self
invariant_of-self c = subst (λ names. AreFound names c.self.inside.places) (sym c.truncate.ensures.items) (fewer c.self.inside.list.items c.self.inside.places c.args.count c.self.invariant)
