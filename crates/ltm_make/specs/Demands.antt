-- The demand of a made case.
use Rattle.std.specs.Prelude.{ℕ, zero, suc, ◌≡◌, ◌+◌, ◌*◌, ◌%◌, ◌<◌, ◌==◌, false, length, if◌then◌else◌}
use Rattle.rand_pcg.specs.Lcg.{Lcg}
use Rattle.ltm_network.specs.Network.{NetworkData, out_links}
use Rattle.ltm_demand.specs.declared.row.DemandRow.{DemandRow}
use Rattle.ltm_demand.specs.Rows.{edited_rows}
use Rattle.ltm_scenario.specs.Data.{ScenarioData}
use Rattle.ltm_scenario.specs.Reads.{destination_node}
use Rattle.ltm_make.specs.declared.making.Making.{Making}
use Rattle.ltm_make.specs.Words.{word, rest}
use Rattle.ltm_make.specs.Links.{made_setup}
use Rattle.ltm_make.specs.Branches.{number}
use Rattle.ltm_make.specs.Splits.{IsFound}
use Rattle.ltm_units.specs.Bounds.{default_demand_rows}

-- 1 to 20 vehicles from a node over the slots 0 to 29, as is drawn
abbrev pub row_from : NetworkData → ℕ → ℕ → Lcg → DemandRow
row_from d k destination g = record {
  origin = record { 0 = number d k };
  destination = destination;
  from = 0;
  to = 30;
  amount = record { 0 = 1000 * (1 + word g % 20) };
}

-- with the demand of a node for a destination
abbrev pub with_demand_row : ℕ → ℕ → Making → Making
with_demand_row k destination m = record {
  scenario = record m.scenario { demand = edited_rows m.scenario.demand (row_from m.scenario.network k destination m.words) };
  words = rest m.words;
}

-- with the demand of a node for each destination that it is not
abbrev pub with_homeward : ℕ → Making → Making
with_homeward k m = if k == 0 then m else with_demand_row k 0 m

abbrev pub with_awayward : ℕ → ℕ → Making → Making
with_awayward width k m = if k + 1 == width then m else with_demand_row k 1 m

-- with that of the first nodes, in order
abbrev pub with_demands : ℕ → ℕ → Making → Making
with_demands width zero m = m
with_demands width (suc k) m = with_awayward width k (with_homeward k (with_demands width k m))

-- demand of a node for a destination finds room
pub record IsOrigin (s : ScenarioData) (k destination : ℕ) : Type 0 where
  pub setup : s.setup ≡ made_setup
  pub few : length s.demand < default_demand_rows
  pub found : IsFound s.network k
  pub goes_out : 0 < length (out_links s.network (number s.network k))
  pub there : destination < length s.destinations
  pub apart : (number s.network k == destination_node s destination) ≡ false
