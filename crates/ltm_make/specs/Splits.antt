-- The split rows of a made case.
use Rattle.std.specs.Prelude.{ℕ, zero, suc, ◌≡◌, ◌+◌, ◌-◌, ◌<◌, ◌≤◌, ◌==◌, false, List, [], ◌∷◌, length, map, if◌then◌else◌, IfSome, Option, Some, option_map}
use Rattle.std.specs.Option.{option_map_or}
use Rattle.rand_pcg.specs.Lcg.{Lcg}
use Rattle.ltm_network.specs.Names.{place_of}
use Rattle.ltm_network.specs.Network.{NetworkData, head_of, out_links, out_link}
use Rattle.ltm_splits.specs.Rows.{key_of, put_in}
use Rattle.ltm_scenario.specs.Data.{ScenarioData}
use Rattle.ltm_scenario.specs.Reads.{destination_node}
use Rattle.ltm_make.specs.declared.branches.Branch.{Branch}
use Rattle.ltm_make.specs.declared.branches.Way.{Way}
use Rattle.ltm_make.specs.declared.making.Making.{Making}
use Rattle.ltm_make.specs.Names.{name_of_node}
use Rattle.ltm_make.specs.Grid.{IsWidth, roads}
use Rattle.ltm_make.specs.Links.{made_setup}
use Rattle.ltm_make.specs.Roads.{IsAlong}
use Rattle.ltm_make.specs.Branches.{number, weight_of, words_after, weight_to, home_first, home_second, away_first, away_second}
use Rattle.ltm_units.specs.Bounds.{default_split_rows}

-- the two destinations: the first node, and the end of the first row
abbrev pub with_ends : ℕ → Making → Making
with_ends width m = record m {
  scenario = record m.scenario { destinations = number m.scenario.network 0 ∷ number m.scenario.network (width - 1) ∷ [] };
}

-- where a branch leads, and the weight that is drawn for it
abbrev pub way_of : NetworkData → Branch → Lcg → Way
way_of d b g = record { node = record { 0 = number d b.to }; weight = weight_of b g }

abbrev pub words_after_both : Branch → Option Branch → Lcg → Lcg
words_after_both first second g = option_map_or (λ b. words_after b (words_after first g)) second (words_after first g)

-- the weights of a node's out-links by one or two branches, drawn one after the other
abbrev pub weights : NetworkData → ℕ → Branch → Option Branch → Lcg → List ℕ
weights d k first second g =
    map (λ link. weight_to (way_of d first g) (option_map (λ b. way_of d b (words_after first g)) second) (head_of d link)) (out_links d (number d k))

-- with the split row of a node for a destination
abbrev pub with_split_row : ℕ → ℕ → Branch → Option Branch → Making → Making
with_split_row k destination first second m = record {
  scenario = record m.scenario {
    splits = put_in m.scenario.splits (key_of (number m.scenario.network k) destination 0) (weights m.scenario.network k first second m.words);
  };
  words = words_after_both first second m.words;
}

-- with the split rows of a node: none where it is the destination
abbrev pub with_home : ℕ → ℕ → Making → Making
with_home width k m = if k == 0 then m else with_split_row k 0 (home_first width k) (home_second width k) m

abbrev pub with_away : ℕ → ℕ → ℕ → Making → Making
with_away nodes width k m = if k + 1 == width then m else with_split_row k 1 (away_first width k) (away_second nodes width k) m

-- with those of the first nodes, in order
abbrev pub with_splits : ℕ → ℕ → ℕ → Making → Making
with_splits nodes width zero m = m
with_splits nodes width (suc k) m = with_away nodes width k (with_home width k (with_splits nodes width k m))

-- a node of the grid is found by its name
abbrev pub IsFound : NetworkData → ℕ → Type 0
IsFound d k = place_of d.nodes (name_of_node k) ≡ Some (number d k)

-- a link leads from a node of the grid to another
pub record HasLink (d : NetworkData) (j k : ℕ) : Type 0 where
  pub place : ℕ
  pub inside : place < length (out_links d (number d j))
  pub leads : head_of d (out_link d (number d j) place) ≡ number d k

-- one or two branches of a node: a link leads along the first, whose weight is not 0
pub record AreBranches (d : NetworkData) (k : ℕ) (first : Branch) (second : Option Branch) : Type 0 where
  pub here : IsFound d k
  pub first_found : IsFound d first.to
  pub leads : HasLink d k first.to
  pub some : first.least ≡ 1
  pub few : first.choices ≤ 3
  pub second_found : IfSome second (λ b. IsFound d b.to)
  pub second_least : IfSome second (λ b. b.least ≤ 1)
  pub second_few : IfSome second (λ b. b.choices ≤ 3)

-- a split row of a node for a destination finds room
pub record HasRoom (s : ScenarioData) (k destination : ℕ) : Type 0 where
  pub setup : s.setup ≡ made_setup
  pub few : length s.splits < default_split_rows
  pub there : destination < length s.destinations
  pub apart : (number s.network k == destination_node s destination) ≡ false

-- 4 to 400 nodes, and the width of their grid
pub record IsGrid (nodes width : ℕ) : Type 0 where
  pub some : 4 ≤ nodes
  pub few : nodes ≤ 400
  pub wide : IsWidth nodes width

-- a scenario with the links of a grid, and the two ends as destinations
pub record IsLaid (nodes width : ℕ) (s : ScenarioData) : Type 0 where
  pub grid : IsGrid nodes width
  pub setup : s.setup ≡ made_setup
  pub along : IsAlong s.network (roads nodes width nodes)
  pub ends : s.destinations ≡ number s.network 0 ∷ number s.network (width - 1) ∷ []
