-- What edits make of a scenario, or the first cause to refuse one.
use Rattle.std.specs.Prelude.{ℕ, ◌+◌, ◌==◌, ◌≤◌, ◌&&◌, ◌||◌, not, Bool, false, nat_lt, if◌then◌else◌, List, [], ◌∷◌, All, map, sum, slice_set, Option, Some, None, is_none, Result, Ok, Err}
use Rattle.std.specs.List.{list_all}
use Rattle.std.specs.Option.{option_map_or}
use Rattle.ltm_units.specs.Results.{refuse, found, ◌>>>◌}
use Rattle.ltm_diagram.specs.declared.diagram.Diagram.{Diagram}
use Rattle.ltm_diagram.specs.Limits.{limits_of}
use Rattle.ltm_network.specs.Names.{same}
use Rattle.ltm_network.specs.Network.{find_node, find_link, link_name, tail_of, out_links}
use Rattle.ltm_demand.specs.declared.row.DemandRow.{DemandRow}
use Rattle.ltm_demand.specs.declared.row.DemandFault.{DemandFault}
use Rattle.ltm_demand.specs.declared.row.DemandFault.TheVariants.{BadSlots as DemandSlots, TooManyRows as DemandRows, NoMemory as DemandMemory}
use Rattle.ltm_splits.specs.declared.keys.SplitKey.{SplitKey}
use Rattle.ltm_splits.specs.declared.keys.SplitFault.{SplitFault}
use Rattle.ltm_splits.specs.declared.keys.SplitFault.TheVariants.{BadSlots as SplitSlots, ZeroWeight as SplitWeight, TooManyRows as SplitRows, NoMemory as SplitMemory}
use Rattle.ltm_splits.specs.Rows.{SplitRow, key_of}
use Rattle.ltm_splits.specs.Table.{Entry}
use Rattle.ltm_scenario.specs.declared.edit.Edit.{Edit}
use Rattle.ltm_scenario.specs.declared.edit.Edit.TheVariants.{Demand, Limit, Split, Splits, Diagram as NewDiagram, Exit, Horizon}
use Rattle.ltm_scenario.specs.declared.edit.EditFault.{EditFault}
use Rattle.ltm_scenario.specs.declared.edit.EditCause.{EditCause}
use Rattle.ltm_scenario.specs.declared.edit.EditCause.TheVariants.{UnknownName, UnknownDestination, NoOrigin, SameEnds, BadSlots, OpenSplit, ZeroWeight, TooManyRows, Diagram as BadDiagram, CellsOver, NoMemory}
use Rattle.ltm_scenario.specs.declared.faults.HorizonFault.{HorizonFault}
use Rattle.ltm_scenario.specs.declared.faults.HorizonFault.TheVariants.{BadSlots as HorizonSlots, CellsOver as HorizonCells, NoMemory as HorizonMemory}
use Rattle.ltm_scenario.specs.declared.side.Side.{Side}
use Rattle.ltm_scenario.specs.declared.side.Side.TheVariants.{Entry as AtEntry, Exit as AtExit}
use Rattle.ltm_scenario.specs.Weights.{NamedWeight, NamedRow}
use Rattle.ltm_scenario.specs.Data.{ScenarioData}
use Rattle.ltm_scenario.specs.Reads.{destination_of, has_no_out_link, has_split}
use Rattle.ltm_scenario.specs.Valid.{all_lead_on}
use Rattle.ltm_scenario.specs.Horizon.{with_horizon}
use Rattle.ltm_scenario.specs.Build.{with_demand, with_split, with_pair, with_limit_at, are_slots, ◌>>=◌}
use Rattle.ltm_units.specs.Bounds.{most_amount}

abbrev pub cause_of_demand : DemandFault → EditCause
cause_of_demand DemandSlots = BadSlots
cause_of_demand DemandRows = TooManyRows
cause_of_demand DemandMemory = NoMemory

abbrev pub cause_of_split : SplitFault → EditCause
cause_of_split SplitSlots = BadSlots
cause_of_split SplitWeight = ZeroWeight
cause_of_split SplitRows = TooManyRows
cause_of_split SplitMemory = NoMemory

abbrev pub cause_of_horizon : HorizonFault → EditCause
cause_of_horizon HorizonSlots = BadSlots
cause_of_horizon (HorizonCells cells) = CellsOver cells
cause_of_horizon HorizonMemory = NoMemory

-- a refusal of a part, as the edit's cause
abbrev pub or_edit_cause : {A F : Type 0} → (F → EditCause) → Result A F → Result A EditCause
or_edit_cause cause (Ok x) = Ok x
or_edit_cause cause (Err fault) = Err (cause fault)

-- ---- demand
-- the row that an edit sets
unfoldable pub demand_row : ScenarioData → List ℕ → List ℕ → ℕ → ℕ → ℕ → Result DemandRow EditCause
demand_row s origin destination from to amount =
    found (find_node s.network origin) UnknownName >>= λ o.
    found (find_node s.network destination) UnknownName >>= λ end.
    found (destination_of s.destinations end) UnknownDestination >>= λ d.
    refuse (has_no_out_link s o) NoOrigin >>= λ _.
    refuse (o == end) SameEnds >>= λ _.
    refuse (not (are_slots s from to)) BadSlots >>= λ _.
    refuse (not (has_split s.splits o d)) OpenSplit >>= λ _.
    Ok (record { origin = record { 0 = o }; destination = d; from = from; to = to; amount = record { 0 = amount } })

abbrev pub demand_edited : ScenarioData → List ℕ → List ℕ → ℕ → ℕ → ℕ → Result ScenarioData EditCause
demand_edited s origin destination from to amount =
    demand_row s origin destination from to amount >>= λ row. or_edit_cause cause_of_demand (with_demand s row)

-- ---- entry and exit limits
-- the link whose limits an edit sets
unfoldable pub limited_link : ScenarioData → List ℕ → ℕ → ℕ → Result ℕ EditCause
limited_link s name from to =
    found (find_link s.network name) UnknownName >>= λ link.
    refuse (not (are_slots s from to)) BadSlots >>= λ _.
    Ok link

abbrev pub limit_edited : ScenarioData → Side → List ℕ → ℕ → ℕ → ℕ → Result ScenarioData EditCause
limit_edited s side name from to amount = limited_link s name from to >>= λ link. Ok (with_limit_at s side link from to amount)

-- ---- splits
-- the name is that of an out-link of the node
abbrev pub is_out_link : ScenarioData → ℕ → List ℕ → Bool
is_out_link s node name = option_map_or (λ link. tail_of s.network link == node) (find_link s.network name) false

-- the weight of the link of that name, 0 where it is not named
abbrev pub weight_of : List NamedWeight → List ℕ → ℕ
weight_of [] name = 0
weight_of (w ∷ ws) name = if same w.0 name then w.1 else weight_of ws name

-- a weight for each out-link of the node, in order of link number
abbrev pub weights_at : ScenarioData → ℕ → List NamedWeight → List ℕ
weights_at s node weights = map (λ link. weight_of weights (link_name s.network link)) (out_links s.network node)

-- the row would be the first of its node and destination and begin late, or some weight would not lead on
abbrev pub is_open : ScenarioData → ℕ → ℕ → ℕ → List ℕ → Bool
is_open s node destination from weights =
    (not (from == 0) && not (has_split s.splits node destination)) || not (all_lead_on s node destination weights)

-- the node and the destination whose rows an edit sets
unfoldable pub named_pair : ScenarioData → List ℕ → List ℕ → Result (ℕ × ℕ) EditCause
named_pair s node destination =
    found (find_node s.network node) UnknownName >>= λ n.
    found (find_node s.network destination) UnknownName >>= λ end.
    found (destination_of s.destinations end) UnknownDestination >>= λ d.
    refuse (n == end) SameEnds >>= λ _.
    Ok (n, d)

-- the key of the row that an edit sets
unfoldable pub split_key : ScenarioData → List ℕ → List ℕ → ℕ → List NamedWeight → Result SplitKey EditCause
split_key s node destination from weights =
    named_pair s node destination >>= λ pair.
    refuse (not (nat_lt from s.setup.slots)) BadSlots >>= λ _.
    refuse (not (list_all (λ w. is_out_link s pair.0 w.0) weights)) UnknownName >>= λ _.
    Ok (key_of pair.0 pair.1 from)

-- the row of that key with those weights, which are not all 0 and lead on
unfoldable pub split_row : ScenarioData → SplitKey → List ℕ → Result SplitRow EditCause
split_row s key weights =
    refuse (sum weights == 0) ZeroWeight >>= λ _.
    refuse (is_open s key.node.0 key.destination key.from weights) OpenSplit >>= λ _.
    Ok (key, weights)

abbrev pub split_edited : ScenarioData → List ℕ → List ℕ → ℕ → List NamedWeight → Result ScenarioData EditCause
split_edited s node destination from weights =
    split_key s node destination from weights >>= λ key.
    split_row s key (weights_at s key.node.0 weights) >>= λ row.
    or_edit_cause cause_of_split (with_split s row.0 row.1)

-- ---- all splits of a node and a destination
-- the rows that an edit says, with a weight for each out-link of the node
abbrev pub entries_said : ScenarioData → ℕ → List NamedRow → List Entry
entries_said s node rows = map (λ row. (row.0, weights_at s node row.1)) rows

-- a row may begin at the slot: the first at 0, each other behind the one before it, and within the horizon
abbrev pub may_begin : ℕ → Option ℕ → ℕ → Bool
may_begin slots None from = (from == 0) && nat_lt from slots
may_begin slots (Some before) from = nat_lt before from && nat_lt from slots

-- the weights are those of out-links of the node, not all 0, and lead on
unfoldable pub row_checked : ScenarioData → ℕ → ℕ → List NamedWeight → Result (Unit {0}) EditCause
row_checked s node destination weights =
    refuse (not (list_all (λ w. is_out_link s node w.0) weights)) UnknownName
    >>> refuse (sum (weights_at s node weights) == 0) ZeroWeight
    >>> refuse (not (all_lead_on s node destination (weights_at s node weights))) OpenSplit

-- the rows of the pair that come behind one that begins at that slot, in order; where none came before, there is one
abbrev pub rows_checked : ScenarioData → ℕ → ℕ → Option ℕ → List NamedRow → Result (Unit {0}) EditCause
rows_checked s node destination before [] = refuse (is_none before) BadSlots
rows_checked s node destination before (row ∷ rows) =
    refuse (not (may_begin s.setup.slots before row.0)) BadSlots
    >>> row_checked s node destination row.1
    >>> rows_checked s node destination (Some row.0) rows

abbrev pub splits_edited : ScenarioData → List ℕ → List ℕ → List NamedRow → Result ScenarioData EditCause
splits_edited s node destination rows =
    named_pair s node destination >>= λ pair.
    rows_checked s pair.0 pair.1 None rows >>= λ _.
    or_edit_cause cause_of_split (with_pair s pair.0 pair.1 (entries_said s pair.0 rows))

-- ---- diagrams
abbrev pub with_diagram : ScenarioData → ℕ → Diagram → ScenarioData
with_diagram s link diagram = record s { diagrams = slice_set s.diagrams link diagram }

unfoldable pub diagram_edited : ScenarioData → List ℕ → Diagram → Result ScenarioData EditCause
diagram_edited s name diagram =
    found (find_link s.network name) UnknownName >>= λ link.
    or_edit_cause BadDiagram (limits_of diagram s.setup.step.0 s.setup.carry) >>= λ _.
    Ok (with_diagram s link diagram)

-- ---- the horizon
abbrev pub horizon_edited : ScenarioData → ℕ → Result ScenarioData EditCause
horizon_edited s slots = or_edit_cause cause_of_horizon (with_horizon s slots)

-- ---- one edit, and a batch
abbrev pub edited : ScenarioData → Edit → Result ScenarioData EditCause
edited s (Demand origin destination from to amount) = demand_edited s origin destination from to amount.0
edited s (Limit link from to amount) = limit_edited s AtEntry link from to amount.0
edited s (Split node destination from weights) = split_edited s node destination from weights
edited s (Splits node destination rows) = splits_edited s node destination rows
edited s (NewDiagram link diagram) = diagram_edited s link diagram
edited s (Exit link from to amount) = limit_edited s AtExit link from to amount.0
edited s (Horizon slots) = horizon_edited s slots

abbrev pub at_place : {A : Type 0} → ℕ → Result A EditCause → Result A EditFault
at_place place (Ok x) = Ok x
at_place place (Err cause) = Err (record { place = place; cause = cause })

-- the edits in order, the first of which has that place
abbrev pub edited_from : ℕ → ScenarioData → List Edit → Result ScenarioData EditFault
edited_from place s [] = Ok s
edited_from place s (edit ∷ edits) = at_place place (edited s edit) >>= λ next. edited_from (place + 1) next edits

-- all edits in order, or the place, counted from 1, and the cause of the first that is refused
abbrev pub edited_all : ScenarioData → List Edit → Result ScenarioData EditFault
edited_all s edits = edited_from 1 s edits

-- the amount of an edit
abbrev pub amount_of : Edit → ℕ
amount_of (Demand origin destination from to amount) = amount.0
amount_of (Limit link from to amount) = amount.0
amount_of (Split node destination from weights) = 0
amount_of (Splits node destination rows) = 0
amount_of (NewDiagram link diagram) = 0
amount_of (Exit link from to amount) = amount.0
amount_of (Horizon slots) = 0

-- the horizon once an accepted edit is made
abbrev pub slots_after : ℕ → Edit → ℕ
slots_after slots (Demand origin destination from to amount) = slots
slots_after slots (Limit link from to amount) = slots
slots_after slots (Split node destination from weights) = slots
slots_after slots (Splits node destination rows) = slots
slots_after slots (NewDiagram link diagram) = slots
slots_after slots (Exit link from to amount) = slots
slots_after slots (Horizon more) = more

-- the horizon once all edits of an accepted batch are made: that of the last edit that raises it, if one does
abbrev pub horizon_after : ℕ → List Edit → ℕ
horizon_after slots [] = slots
horizon_after slots (edit ∷ edits) = horizon_after (slots_after slots edit) edits

-- each amount is at most a million vehicles
abbrev pub HaveAmounts : List Edit → Type 0
HaveAmounts edits = All (λ edit. amount_of edit ≤ most_amount) edits
