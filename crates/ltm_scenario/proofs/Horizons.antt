-- A longer horizon, and the way back.
use Rattle.std.proofs.Common.{◌≡◌, ℕ, ◌<◌, ◌≤◌, List, refl, sym, ap, subst, ◌∙◌, arith}
use Rattle.ltm_limits.specs.Limits.{LimitsState, limits_over, limits_within}
use Rattle.ltm_limits.proofs.Stays.{limits_whole}
use Rattle.ltm_demand.specs.declared.row.DemandRow.{DemandRow}
use Rattle.ltm_demand.specs.Rows.{DemandData, DemandState, IsDemandRow, IsNoLess, room_at}
use Rattle.ltm_demand.specs.Kept.{AreDemandRows}
use Rattle.ltm_splits.specs.Rows as splits
use Rattle.ltm_splits.specs.Rows.{SplitsData}
use Rattle.ltm_units.specs.Bounds.{most_slots}
use Rattle.ltm_scenario.specs.declared.parts.Parts.{Parts}
use Rattle.ltm_scenario.specs.declared.setup.Setup.{Setup}
use Rattle.ltm_scenario.specs.Setup.{IsSetup}
use Rattle.ltm_scenario.specs.declared.parts.undo.Undo.TheVariants.{Horizon}
use Rattle.ltm_scenario.specs.Data.{ScenarioData}
use Rattle.ltm_scenario.specs.Cells.{widths, cells, cells_with}
use Rattle.ltm_scenario.specs.Horizon.{setup_over, with_slots, with_fewer_slots}
use Rattle.ltm_scenario.specs.State.{KeepsRoom}
use Rattle.ltm_scenario.specs.IsScenario.{IsScenario}
use Rattle.ltm_scenario.specs.Parts.{scenario_in, state_in, AreParts}
use Rattle.ltm_scenario.specs.Undo.{Undoes}
use Rattle.ltm_scenario.proofs.Undoing.{undoes_by}
use Rattle.ltm_scenario.proofs.Rooms.{room_stays}

pub longer_cells : (s : ScenarioData) (slots : ℕ) → cells (with_slots s slots) ≡ cells_with s slots
unfolding cells cells_with widths
longer_cells s slots = refl

-- rows within a horizon are within a longer one
rows_within : (slots more most : ℕ) (rows : List DemandRow) → slots ≤ more → AreDemandRows slots most rows → AreDemandRows more most rows
rows_within slots more most rows longer are = record {
  ordered = are.ordered;
  each = λ k d below. let r = are.each k d below in record { some_slots = r.some_slots; within = omega (arith, r.within, longer); some_units = r.some_units; small = r.small };
  few = are.few;
  bounded = are.bounded;
}

setup_longer : (setup : Setup) (slots : ℕ) → IsSetup setup → setup.slots ≤ slots → slots ≤ most_slots → IsSetup (setup_over setup slots)
setup_longer setup slots is longer most = record {
  step_least = is.step_least;
  step_most = is.step_most;
  slots_least = omega (arith, is.slots_least, longer);
  slots_most = most;
  capacity_least = is.capacity_least;
  capacity_most = is.capacity_most;
  cells_least = is.cells_least;
  cells_most = is.cells_most;
  demand_rows_least = is.demand_rows_least;
  demand_rows_most = is.demand_rows_most;
  split_rows_least = is.split_rows_least;
  split_rows_most = is.split_rows_most;
  links_least = is.links_least;
  links_most = is.links_most;
  destinations_least = is.destinations_least;
  destinations_most = is.destinations_most;
}

pub longer_is_scenario : (s : ScenarioData) (slots : ℕ) → IsScenario s → s.setup.slots ≤ slots → slots ≤ most_slots → IsScenario (with_slots s slots)
longer_is_scenario s slots is longer most = record {
  setup = setup_longer s.setup slots is.setup longer most;
  network = is.network;
  most_links = is.most_links;
  diagram_for_each = is.diagram_for_each;
  limits = is.limits;
  entry = limits_whole.longer s.entry _ s.setup.slots slots longer is.entry;
  exit = limits_whole.longer s.exit _ s.setup.slots slots longer is.exit;
  few_destinations = is.few_destinations;
  destinations_are_nodes = is.destinations_are_nodes;
  destinations_apart = is.destinations_apart;
  demand = λ k d below. let r = is.demand k d below in record { origin_is_node = r.origin_is_node; origin_has_out_link = r.origin_has_out_link; destination_is_one = r.destination_is_one; ends_differ = r.ends_differ };
  demand_rows = rows_within s.setup.slots slots s.setup.most_demand_rows s.demand longer is.demand_rows;
  splits = λ k d below. let r = is.splits k d below in record { node_is_node = r.node_is_node; destination_is_one = r.destination_is_one; ends_differ = r.ends_differ; weight_for_each = r.weight_for_each };
  weights = is.weights;
}

-- the demand with another horizon
abbrev demand_over : DemandState → ℕ → DemandState
demand_over d slots = record d { demand = record d.demand { slots = slots } }

-- the tables with another horizon
abbrev parts_over : Parts → ℕ → DemandState → SplitsData → LimitsState → LimitsState → Parts
parts_over t slots demand splits entry exit = record t { setup = setup_over t.setup slots; demand = demand; splits = splits; entry = entry; exit = exit }

pub stretched_are_parts : (t : Parts) (slots : ℕ) (demand : DemandState) (rows : SplitsData) (entry exit : LimitsState) → AreParts t → t.setup.slots < slots → slots ≤ most_slots →
    demand ≡ demand_over t.demand slots → rows ≡ splits.with_slots t.splits slots →
    entry.limits ≡ limits_over t.entry.limits slots → entry.slots ≡ slots → exit.limits ≡ limits_over t.exit.limits slots → exit.slots ≡ slots →
    (scenario_in (parts_over t slots demand rows entry exit) ≡ with_slots (scenario_in t) slots) × AreParts (parts_over t slots demand rows entry exit)
stretched_are_parts t slots demand rows entry exit are longer most demand_is rows_are entry_is entry_slots exit_is exit_slots =
    let same : scenario_in (parts_over t slots demand rows entry exit) ≡ with_slots (scenario_in t) slots =
    λ i. record (with_slots (scenario_in t) slots) { demand = ap (λ (d : DemandState). d.demand.rows) demand_is i; splits = ap (λ (d : SplitsData). d.rows) rows_are i; entry = entry_is i; exit = exit_is i } in (
      same,
      record {
        scenario = subst IsScenario (sym same) (longer_is_scenario (scenario_in t) slots are.scenario (omega (arith, longer)) most);
        pace = are.pace;
        demand_slots = ap (λ (d : DemandState). d.demand.slots) demand_is;
        splits_slots = ap (λ (d : SplitsData). d.slots) rows_are;
        entry_slots = entry_slots;
        exit_slots = exit_slots;
        demand_most = ap (λ (d : DemandState). d.demand.most_rows) demand_is ∙ are.demand_most;
        demand_tabled = ap (λ (d : DemandState). d.tabled) demand_is ∙ are.demand_tabled;
        splits_most = ap (λ (d : SplitsData). d.most_rows) rows_are ∙ are.splits_most;
      },
    )

pub stretch_undoes : (t : Parts) (slots : ℕ) (demand : DemandState) (rows : SplitsData) (entry exit : LimitsState) → AreParts t → t.setup.slots < slots →
    demand ≡ demand_over t.demand slots → rows ≡ splits.with_slots t.splits slots →
    limits_within entry.limits t.entry.slots ≡ t.entry.limits → limits_within exit.limits t.exit.slots ≡ t.exit.limits →
    Undoes (state_in t) (state_in (parts_over t slots demand rows entry exit)) (Horizon t.setup.slots)
stretch_undoes t slots demand rows entry exit are longer demand_is rows_are entry_back exit_back =
    let entry_was : limits_within entry.limits t.setup.slots ≡ t.entry.limits = ap (limits_within entry.limits) (sym are.entry_slots) ∙ entry_back in
    let exit_was : limits_within exit.limits t.setup.slots ≡ t.exit.limits = ap (limits_within exit.limits) (sym are.exit_slots) ∙ exit_back in
    undoes_by (state_in t) (state_in (parts_over t slots demand rows entry exit)) (Horizon t.setup.slots) are.scenario
    (λ i. record (scenario_in t) { demand = ap (λ (d : DemandState). d.demand.rows) demand_is i; splits = ap (λ (d : SplitsData). d.rows) rows_are i; entry = entry_was i; exit = exit_was i })
    (omega (arith, longer))

pub shortened_are_parts : (t : Parts) (slots : ℕ) (demand : DemandState) (rows : SplitsData) (entry exit : LimitsState) → AreParts t → IsScenario (with_fewer_slots (scenario_in t) slots) →
    demand ≡ demand_over t.demand slots → rows ≡ splits.with_slots t.splits slots →
    entry.limits ≡ limits_within t.entry.limits slots → entry.slots ≡ slots → exit.limits ≡ limits_within t.exit.limits slots → exit.slots ≡ slots →
    (scenario_in (parts_over t slots demand rows entry exit) ≡ with_fewer_slots (scenario_in t) slots) × AreParts (parts_over t slots demand rows entry exit)
shortened_are_parts t slots demand rows entry exit are is demand_is rows_are entry_is entry_slots exit_is exit_slots =
    let same : scenario_in (parts_over t slots demand rows entry exit) ≡ with_fewer_slots (scenario_in t) slots =
    λ i. record (with_fewer_slots (scenario_in t) slots) { demand = ap (λ (d : DemandState). d.demand.rows) demand_is i; splits = ap (λ (d : SplitsData). d.rows) rows_are i; entry = entry_is i; exit = exit_is i } in (
      same,
      record {
        scenario = subst IsScenario (sym same) is;
        pace = are.pace;
        demand_slots = ap (λ (d : DemandState). d.demand.slots) demand_is;
        splits_slots = ap (λ (d : SplitsData). d.slots) rows_are;
        entry_slots = entry_slots;
        exit_slots = exit_slots;
        demand_most = ap (λ (d : DemandState). d.demand.most_rows) demand_is ∙ are.demand_most;
        demand_tabled = ap (λ (d : DemandState). d.tabled) demand_is ∙ are.demand_tabled;
        splits_most = ap (λ (d : SplitsData). d.most_rows) rows_are ∙ are.splits_most;
      },
    )

-- no room goes
pub room_over : (t : Parts) (slots : ℕ) (demand : DemandState) (rows : SplitsData) (entry exit : LimitsState) → demand ≡ demand_over t.demand slots → entry.places ≡ t.entry.places → exit.places ≡ t.exit.places →
    KeepsRoom (state_in t) (state_in (parts_over t slots demand rows entry exit))
room_over t slots demand rows entry exit demand_is entry_places exit_places =
    let stays = room_stays (state_in t) in
    record {
      demand = λ o. subst (λ (room : List Rattle.ltm_demand.specs.Rows.OriginRoom). IsNoLess (room_at t.demand.room o) (room_at room o)) (sym (ap (λ (d : DemandState). d.room) demand_is)) (stays.demand o);
      entry = omega (arith, entry_places);
      exit = omega (arith, exit_places);
    }
