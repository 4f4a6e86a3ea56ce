-- The tables of a scenario once one of them changes.
use Rattle.std.proofs.Common.{◌≡◌, ℕ, ◌<◌, List, [], ◌∷◌, ◌++◌, Ok, Err, Result, IsOk, refl, sym, ap, subst, ◌∙◌}
use Rattle.ltm_limits.specs.Limits.{LimitsState, with_limits_of_link}
use Rattle.ltm_diagram.specs.declared.diagram.Diagram.{Diagram}
use Rattle.ltm_diagram.specs.Limits.{limits_of}
use Rattle.ltm_network.specs.Network.{NetworkData, network_linked as linked_network, checked}
use Rattle.ltm_network.specs.Names.{number_of}
use Rattle.ltm_network.specs.IsNetwork.{NetworksStay}
use Rattle.ltm_demand.specs.declared.row.DemandRow.{DemandRow}
use Rattle.ltm_demand.specs.Rows as demand
use Rattle.ltm_demand.specs.Rows.{DemandData, DemandState}
use Rattle.ltm_demand.specs.Kept.{AreDemandRows}
use Rattle.ltm_splits.specs.declared.keys.SplitKey.{SplitKey}
use Rattle.ltm_splits.specs.Rows as splits
use Rattle.ltm_splits.specs.Rows.{SplitsData, HaveWeights}
use Rattle.ltm_scenario.specs.declared.parts.Parts.{Parts}
use Rattle.ltm_scenario.specs.Data.{demand_of, splits_of}
use Rattle.ltm_scenario.specs.Reads.{destination_of}
use Rattle.ltm_scenario.specs.Build.{with_destination_at, with_link_on, HasNoSplitAt}
use Rattle.ltm_scenario.specs.Diagrams.{DiagramsState}
use Rattle.ltm_scenario.specs.IsScenario.{IsScenario, IsDemandOf, IsSplitOf}
use Rattle.ltm_scenario.specs.Parts.{scenario_in, AreParts}
use Rattle.ltm_scenario.proofs.Kept.{demand_is_scenario, split_is_scenario, with_row_rows, with_split_row_rows}
use Rattle.ltm_scenario.proofs.Added.{added_is_scenario}
use Rattle.ltm_scenario.proofs.Linked.{linked_is_scenario}

demand_there : (t : Parts) → AreParts t → t.demand.demand ≡ demand_of (scenario_in t)
demand_there t are = λ i. record { slots = are.demand_slots i; most_rows = are.demand_most i; rows = t.demand.demand.rows }

pub splits_there : (t : Parts) → AreParts t → t.splits ≡ splits_of (scenario_in t)
splits_there t are = λ i. record { slots = are.splits_slots i; most_rows = are.splits_most i; rows = t.splits.rows }

-- the demand with a row, and the same demand with other room
pub with_demand_row : (t : Parts) (next : DemandState) (row : DemandRow) → AreParts t → IsDemandOf (scenario_in t) row → demand.with_row t.demand.demand row ≡ Ok next.demand → AreDemandRows next.demand.slots next.demand.most_rows next.demand.rows → next.tabled ≡ t.demand.tabled → AreParts (record t { demand = next })
with_demand_row t next row are is done kept tabled =
    let there : demand.with_row (demand_of (scenario_in t)) row ≡ Ok next.demand = ap (λ d. demand.with_row d row) (sym (demand_there t are)) ∙ done in
    record {
      scenario = demand_is_scenario (scenario_in t) row next.demand are.scenario is there kept;
      pace = are.pace;
      demand_slots = ap (λ (d : DemandData). d.slots) (with_row_rows (demand_of (scenario_in t)) next.demand row there);
      splits_slots = are.splits_slots;
      entry_slots = are.entry_slots;
      exit_slots = are.exit_slots;
      demand_most = ap (λ (d : DemandData). d.most_rows) (with_row_rows (demand_of (scenario_in t)) next.demand row there);
      demand_tabled = tabled ∙ are.demand_tabled;
      splits_most = are.splits_most;
    }

pub with_same_demand : (t : Parts) (next : DemandState) → AreParts t → next.demand ≡ t.demand.demand → next.tabled ≡ t.demand.tabled → AreParts (record t { demand = next })
with_same_demand t next are same tabled = record {
  scenario = subst (λ (rows : List DemandRow). IsScenario (record (scenario_in t) { demand = rows })) (sym (ap (λ (d : DemandData). d.rows) same)) are.scenario;
  pace = are.pace;
  demand_slots = ap (λ (d : DemandData). d.slots) same ∙ are.demand_slots;
  splits_slots = are.splits_slots;
  entry_slots = are.entry_slots;
  exit_slots = are.exit_slots;
  demand_most = ap (λ (d : DemandData). d.most_rows) same ∙ are.demand_most;
  demand_tabled = tabled ∙ are.demand_tabled;
  splits_most = are.splits_most;
}

pub with_split_row : (t : Parts) (next : SplitsData) (key : SplitKey) (weights : List ℕ) → AreParts t → IsSplitOf (scenario_in t) (key, weights) → splits.with_row t.splits key weights ≡ Ok next → HaveWeights next.rows → AreParts (record t { splits = next })
with_split_row t next key weights are is done have =
    let there : splits.with_row (splits_of (scenario_in t)) key weights ≡ Ok next = ap (λ d. splits.with_row d key weights) (sym (splits_there t are)) ∙ done in
    record {
      scenario = split_is_scenario (scenario_in t) key weights next are.scenario is there have;
      pace = are.pace;
      demand_slots = are.demand_slots;
      splits_slots = ap (λ (d : SplitsData). d.slots) (with_split_row_rows (splits_of (scenario_in t)) next key weights there);
      entry_slots = are.entry_slots;
      exit_slots = are.exit_slots;
      demand_most = are.demand_most;
      demand_tabled = are.demand_tabled;
      splits_most = ap (λ (d : SplitsData). d.most_rows) (with_split_row_rows (splits_of (scenario_in t)) next key weights there);
    }

pub with_same_splits : (t : Parts) (next : SplitsData) → AreParts t → next ≡ t.splits → AreParts (record t { splits = next })
with_same_splits t next are same = subst (λ (s : SplitsData). AreParts (record t { splits = s })) (sym same) are

pub with_added : (t : Parts) (node : ℕ) (next : List ℕ) → AreParts t → node < Rattle.std.proofs.Common.length t.network.nodes → with_destination_at t.setup.most_destinations t.destinations node (destination_of t.destinations node) ≡ Ok next → AreParts (record t { destinations = next })
with_added t node next are there done = record {
  scenario = added_is_scenario (scenario_in t) node next are.scenario there done;
  pace = are.pace;
  demand_slots = are.demand_slots;
  splits_slots = are.splits_slots;
  entry_slots = are.entry_slots;
  exit_slots = are.exit_slots;
  demand_most = are.demand_most;
  demand_tabled = are.demand_tabled;
  splits_most = are.splits_most;
}

pub with_same_destinations : (t : Parts) (next : List ℕ) → AreParts t → next ≡ t.destinations → AreParts (record t { destinations = next })
with_same_destinations t next are same = subst (λ (ds : List ℕ). AreParts (record t { destinations = ds })) (sym same) are

-- a link more
pub with_linked : (t : Parts) (name tail head : List ℕ) (diagram : Diagram) (network : NetworkData) (diagrams : DiagramsState) (entry exit : LimitsState) → NetworksStay → AreParts t → checked t.network name tail head ≡ Ok tt → HasNoSplitAt (scenario_in t) (number_of t.network.nodes tail) → IsOk (limits_of diagram t.setup.step.0 t.setup.carry) →
    network ≡ linked_network t.network name tail head → diagrams.pace ≡ t.diagrams.pace → diagrams.diagrams ≡ t.diagrams.diagrams ++ diagram ∷ [] →
    entry.limits ≡ with_limits_of_link t.entry.limits t.entry.slots → entry.slots ≡ t.entry.slots → exit.limits ≡ with_limits_of_link t.exit.limits t.exit.slots → exit.slots ≡ t.exit.slots →
    (scenario_in (record t { network = network; diagrams = diagrams; entry = entry; exit = exit }) ≡ with_link_on (scenario_in t) (linked_network t.network name tail head) diagram) × AreParts (record t { network = network; diagrams = diagrams; entry = entry; exit = exit })
with_linked t name tail head diagram network diagrams entry exit stay are taken free sets network_is pace_is diagrams_are entry_is entry_slots exit_is exit_slots =
    let same : scenario_in (record t { network = network; diagrams = diagrams; entry = entry; exit = exit }) ≡ with_link_on (scenario_in t) (linked_network t.network name tail head) diagram =
    λ i. record (scenario_in t) {
      network = network_is i;
      diagrams = diagrams_are i;
      entry = (entry_is ∙ ap (with_limits_of_link t.entry.limits) are.entry_slots) i;
      exit = (exit_is ∙ ap (with_limits_of_link t.exit.limits) are.exit_slots) i;
    } in (
      same,
      record {
        scenario = subst IsScenario (sym same) (linked_is_scenario (scenario_in t) name tail head diagram stay are.scenario taken free sets);
        pace = pace_is ∙ are.pace;
        demand_slots = are.demand_slots;
        splits_slots = are.splits_slots;
        entry_slots = entry_slots ∙ are.entry_slots;
        exit_slots = exit_slots ∙ are.exit_slots;
        demand_most = are.demand_most;
        demand_tabled = are.demand_tabled;
        splits_most = are.splits_most;
      },
    )
