use Rattle.std.proofs.Common.{◌≢◌, ℕ, ◌<◌, IsSome}
use Rattle.ltm_routes.specs.Roads.{roads_of}
use Rattle.ltm_routes.specs.Potentials.{potential_at, LeadsOn}
use Rattle.ltm_routes.proofs.potentials.all_lead_on.Given as goal

abbrev pub invariant-loop-node : goal.invariant-loop-node
invariant-loop-node l = (node : ℕ) → node < l.node → node ≢ l.end.0 → IsSome (potential_at l.potentials node) → LeadsOn (roads_of l.scenario) l.potentials node
