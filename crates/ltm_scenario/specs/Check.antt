-- The first broken rule of a case.
use Rattle.std.specs.Prelude.{ℕ, Bool, if◌then◌else◌, List, [], ◌∷◌, Result, Ok, Err}
use Rattle.std.specs.List.{zip}
use Rattle.ltm_units.specs.Results.{◌>>>◌}
use Rattle.ltm_network.specs.Network.{out_links, head_of, node_name}
use Rattle.ltm_demand.specs.declared.row.DemandRow.{DemandRow}
use Rattle.ltm_splits.specs.Rows.{SplitRow}
use Rattle.ltm_scenario.specs.Data.{ScenarioData}
use Rattle.ltm_scenario.specs.Reads.{destination_name}
use Rattle.ltm_scenario.specs.Cells.{cells}
use Rattle.ltm_scenario.specs.Valid.{leads_on, is_demand_split, is_split_begun, is_small}
use Rattle.ltm_scenario.specs.declared.faults.ScenarioFault.{ScenarioFault}
use Rattle.ltm_scenario.specs.declared.faults.ScenarioFault.TheVariants.{NoSplit, CellsOver}

abbrev pub Checked : Type 0
Checked = Result (Unit {0}) ScenarioFault

abbrev pub need : Bool → ScenarioFault → Checked
need test fault = if test then Ok tt else Err fault

-- the first fault over a list
abbrev pub first_over : {A : Type 0} → (A → Checked) → List A → Checked
first_over check [] = Ok tt
first_over check (x ∷ xs) = check x >>> first_over check xs

-- a node and a destination without the split row that a rule asks for
abbrev pub no_split : ScenarioData → ℕ → ℕ → ScenarioFault
no_split s node destination = NoSplit (node_name s.network node) (destination_name s destination)

abbrev pub demand_row_checked : ScenarioData → DemandRow → Checked
demand_row_checked s row = need (is_demand_split s row) (no_split s row.origin.0 row.destination)

-- an out-link and its weight: where it does not lead on the link's head is at fault
abbrev pub weight_checked : ScenarioData → ℕ → (ℕ × ℕ) → Checked
weight_checked s destination p = need (leads_on s destination p.0 p.1) (no_split s (head_of s.network p.0) destination)

abbrev pub weights_checked : ScenarioData → ℕ → ℕ → List ℕ → Checked
weights_checked s node destination weights = first_over (weight_checked s destination) (zip (out_links s.network node) weights)

-- first that the node and destination begin at slot 0, then the weights in order of link number
abbrev pub split_row_checked : ScenarioData → SplitRow → Checked
split_row_checked s row =
    need (is_split_begun s row) (no_split s row.0.node.0 row.0.destination)
    >>> weights_checked s row.0.node.0 row.0.destination row.1

abbrev pub cells_checked : ScenarioData → Checked
cells_checked s = need (is_small s) (CellsOver (cells s))

-- demand rows and split rows stand in order of node, then destination, then slot; the cells come last
abbrev pub checked : ScenarioData → Checked
checked s = first_over (demand_row_checked s) s.demand >>> first_over (split_row_checked s) s.splits >>> cells_checked s
