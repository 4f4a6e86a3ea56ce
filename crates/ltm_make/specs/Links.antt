-- The links of a made case, one for each road of its grid.
use Rattle.std.specs.Prelude.{ℕ, ◌≡◌, ◌+◌, ◌*◌, ◌%◌, false, List, [], ◌∷◌, length}
use Rattle.ltm_diagram.specs.declared.diagram.Diagram.{Diagram}
use Rattle.ltm_network.specs.Network.{NetworkData, network_linked}
use Rattle.ltm_scenario.specs.declared.setup.Setup.{Setup}
use Rattle.ltm_scenario.specs.Setup.{setup_of}
use Rattle.ltm_scenario.specs.Data.{ScenarioData, empty_scenario}
use Rattle.ltm_scenario.specs.Build.{with_link_on}
use Rattle.ltm_make.specs.declared.grid.Road.{Road}
use Rattle.ltm_make.specs.declared.making.Making.{Making}
use Rattle.ltm_make.specs.Words.{words_from, word, rest}
use Rattle.ltm_make.specs.Grid.{roads}
use Rattle.ltm_make.specs.Names.{name_of_node, name_of_link}

-- one of four lengths from 200 m, speeds of 54 and 18 km/h, and 150 vehicles per km at jam density
abbrev pub diagram_of : ℕ → Diagram
diagram_of choice = record { length_m = 200 + 100 * choice; free_kmh = 54; wave_kmh = 18; jam_per_km = 150 }

-- the network with a link along a road, named by its number
abbrev pub with_road_link : NetworkData → Road → NetworkData
with_road_link d road = network_linked d (name_of_link (length d.links)) (name_of_node road.from) (name_of_node road.to)

-- with a link along a road, whose length is drawn as it is added
abbrev pub with_road : Making → Road → Making
with_road m road = record {
  scenario = with_link_on m.scenario (with_road_link m.scenario.network road) (diagram_of (word m.words % 4));
  words = rest m.words;
}

-- along several, one after another
abbrev pub with_roads : Making → List Road → Making
with_roads m [] = m
with_roads m (road ∷ roads) = with_roads (with_road m road) roads

-- links may be added: there is no split row yet, a slot has 10 seconds, and nothing of a capacity is carried
pub record TakesLinks (s : ScenarioData) : Type 0 where
  pub no_splits : s.splits ≡ []
  pub step : s.setup.step.0 ≡ 10000
  pub carry : s.setup.carry ≡ false

-- 60 slots of 10 seconds, and 32 vehicles a slot from an origin
abbrev pub made_setup : Setup
made_setup = setup_of (record { 0 = 10000 }) 60 (record { 0 = 32000 })

-- nothing yet but the words of a number
abbrev pub making_from : ℕ → Making
making_from start = record { scenario = empty_scenario made_setup; words = words_from start }

-- with all links of its grid
abbrev pub with_grid : ℕ → ℕ → Making → Making
with_grid nodes width m = with_roads m (roads nodes width nodes)
