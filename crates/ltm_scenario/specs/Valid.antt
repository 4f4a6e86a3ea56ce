-- The four rules of a valid case.
use Rattle.std.specs.Prelude.{◌≡◌, ℕ, ◌==◌, ◌&&◌, ◌||◌, Bool, true, List}
use Rattle.std.specs.List.{list_any, list_all, zip}
use Rattle.ltm_network.specs.Network.{out_links, head_of}
use Rattle.ltm_demand.specs.declared.row.DemandRow.{DemandRow}
use Rattle.ltm_splits.specs.Rows.{SplitRow, is_of}
use Rattle.ltm_scenario.specs.Data.{ScenarioData}
use Rattle.ltm_scenario.specs.Reads.{destination_node, has_split}
use Rattle.ltm_scenario.specs.Cells.{cells, has_room}

-- the node and the destination have a split row from slot 0 on
abbrev pub has_start : List SplitRow → ℕ → ℕ → Bool
has_start rows node destination = list_any (λ row. is_of node destination row && (row.0.from == 0)) rows

-- a link with that weight leads on to the destination: the weight is 0, or the link ends there, or it ends at a node
-- that has a split row for it
abbrev pub leads_on : ScenarioData → ℕ → ℕ → ℕ → Bool
leads_on s destination link weight =
    (weight == 0) || ((head_of s.network link == destination_node s destination) || has_split s.splits (head_of s.network link) destination)

-- so do all out-links of a node with these weights
abbrev pub all_lead_on : ScenarioData → ℕ → ℕ → List ℕ → Bool
all_lead_on s node destination weights = list_all (λ p. leads_on s destination p.0 p.1) (zip (out_links s.network node) weights)

-- 1. the node and the destination of a demand row have a split row
abbrev pub is_demand_split : ScenarioData → DemandRow → Bool
is_demand_split s row = has_split s.splits row.origin.0 row.destination

-- 2. the first split row of a node and a destination begins at slot 0
abbrev pub is_split_begun : ScenarioData → SplitRow → Bool
is_split_begun s row = has_start s.splits row.0.node.0 row.0.destination

-- 3. a positive weight leads to the destination or to a node that has a split row for it
abbrev pub is_split_led : ScenarioData → SplitRow → Bool
is_split_led s row = all_lead_on s row.0.node.0 row.0.destination row.1

-- 4. the cells are few, where the history of a loading is kept
abbrev pub is_small : ScenarioData → Bool
is_small s = has_room s (cells s)

pub record IsValid (s : ScenarioData) : Type 0 where
  pub demand_is_split : list_all (is_demand_split s) s.demand ≡ true
  pub splits_are_begun : list_all (is_split_begun s) s.splits ≡ true
  pub splits_are_led : list_all (is_split_led s) s.splits ≡ true
  pub small : is_small s ≡ true
