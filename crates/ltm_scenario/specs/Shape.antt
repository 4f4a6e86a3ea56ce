-- What no edit changes, and what none lowers.
use Rattle.std.specs.Prelude.{◌≡◌, ◌≤◌}
use Rattle.ltm_scenario.specs.Data.{ScenarioData}
use Rattle.ltm_scenario.specs.Horizon.{setup_over}

-- the same nodes, links and destinations, and the same setup, but that the horizon may be longer
pub record SameShape (old new : ScenarioData) : Type 0 where
  pub setup : new.setup ≡ setup_over old.setup new.setup.slots
  pub slots : old.setup.slots ≤ new.setup.slots
  pub network : new.network ≡ old.network
  pub destinations : new.destinations ≡ old.destinations
