-- What an edit of one table changes, and how it is undone.
use Rattle.std.proofs.Common.{◌≡◌, ℕ, ◌+◌, ◌-◌, ◌*◌, ◌<◌, ◌≤◌, Bool, List, length, slice_set, get_or, Ok, Some, None, IsSome, IsOk, Option, refl, sym, ap, subst, ◌∙◌, arith, vec_len}
use Rattle.std.specs.Global.{Vec}
use Rattle.std.proofs.Math.ListN.{set, length-set}
use Rattle.std.specs.Result.{is_ok}
use Rattle.std.proofs.lemmas.List.{set-set, set-get_or}
use Rattle.std.proofs.lemmas.List.Elements.{All-set}
use Rattle.ltm_limits.specs.Limits.{LimitsState, with_values}
use Rattle.ltm_diagram.specs.declared.diagram.Diagram.{Diagram as LinkDiagram}
use Rattle.ltm_diagram.specs.declared.diagram.Limits.{Limits}
use Rattle.ltm_diagram.specs.Limits.{limits_of}
use Rattle.ltm_demand.specs.declared.row.DemandRow.{DemandRow}
use Rattle.ltm_demand.specs.Rows as demand
use Rattle.ltm_demand.specs.Rows.{DemandData, DemandState, CanRestore, edited_rows}
use Rattle.ltm_splits.specs.declared.keys.SplitKey.{SplitKey}
use Rattle.ltm_splits.specs.Rows as splits
use Rattle.ltm_splits.specs.Rows.{SplitRow, SplitsData, put_back, row_of}
use Rattle.ltm_scenario.specs.declared.parts.Parts.{Parts}
use Rattle.ltm_scenario.specs.declared.parts.undo.Undo.{Undo}
use Rattle.ltm_scenario.specs.declared.parts.undo.Undo.TheVariants.{Demand, Limit, NewSplit, OldSplit, Pair, Diagram, Horizon}
use Rattle.ltm_scenario.specs.declared.side.Side.TheVariants.{Entry, Exit}
use Rattle.ltm_scenario.specs.Data.{ScenarioData, demand_of}
use Rattle.ltm_scenario.specs.Diagrams.{DiagramsState}
use Rattle.ltm_scenario.specs.State.{ScenarioState}
use Rattle.ltm_scenario.specs.IsScenario.{IsScenario}
use Rattle.ltm_scenario.specs.SplitNote.{IsSplitNote}
use Rattle.ltm_scenario.specs.Parts.{scenario_in, state_in, AreParts}
use Rattle.ltm_scenario.specs.Undo.{undone, CanUndo, Undoes}
use Rattle.ltm_scenario.proofs.Kept.{with_row_rows}

-- what is undone is what was, so it is a scenario
pub undoes_by : (old new : ScenarioState) (undo : Undo) → IsScenario old.scenario → undone new.scenario undo ≡ old.scenario → Rattle.ltm_scenario.specs.Undo.Fits new undo → Undoes old new undo
undoes_by old new undo is back fits = record { back = back; can = record { scenario = subst IsScenario (sym back) is; fits = fits } }

-- ---- demand
pub demand_undoes : (t : Parts) (next : DemandState) (row : DemandRow) → AreParts t → AreParts (record t { demand = next }) → demand.with_row next.demand row ≡ Ok t.demand.demand → CanRestore next row → Undoes (state_in t) (state_in (record t { demand = next })) (Demand row)
demand_undoes t next row are are_next back can =
    let rows : t.demand.demand.rows ≡ edited_rows next.demand.rows row = ap (λ (d : DemandData). d.rows) (with_row_rows next.demand t.demand.demand row back) in
    undoes_by (state_in t) (state_in (record t { demand = next })) (Demand row) are.scenario
    (ap (λ (rs : List DemandRow). record (scenario_in t) { demand = rs }) (sym rows))
    (let there : next.demand ≡ demand_of (scenario_in (record t { demand = next })) = λ i. record { slots = are_next.demand_slots i; most_rows = are_next.demand_most i; rows = next.demand.rows } in
    subst (λ (b : Bool). CanRestore (record { demand = demand_of (scenario_in (record t { demand = next })); tabled = b; room = next.room }) row) are_next.demand_tabled
    (subst (λ (d : DemandData). CanRestore (record { demand = d; tabled = next.tabled; room = next.room }) row) there can))

pub demand_restored : (t : Parts) (next : DemandState) (row : DemandRow) → AreParts t → IsScenario (undone (scenario_in t) (Demand row)) → demand.with_row t.demand.demand row ≡ Ok next.demand → next.tabled ≡ t.demand.tabled → (scenario_in (record t { demand = next }) ≡ undone (scenario_in t) (Demand row)) × AreParts (record t { demand = next })
demand_restored t next row are is done tabled =
    let rows = with_row_rows t.demand.demand next.demand row done in
    let same : scenario_in (record t { demand = next }) ≡ undone (scenario_in t) (Demand row) = ap (λ (d : DemandData). record (scenario_in t) { demand = d.rows }) rows in (
      same,
      record {
        scenario = subst IsScenario (sym same) is;
        pace = are.pace;
        demand_slots = ap (λ (d : DemandData). d.slots) rows ∙ are.demand_slots;
        splits_slots = are.splits_slots;
        entry_slots = are.entry_slots;
        exit_slots = are.exit_slots;
        demand_most = ap (λ (d : DemandData). d.most_rows) rows ∙ are.demand_most;
        demand_tabled = tabled ∙ are.demand_tabled;
        splits_most = are.splits_most;
      },
    )

-- ---- limits
pub entry_restored : (t : Parts) (next : LimitsState) (link from : ℕ) (was : Vec ℕ) → AreParts t → IsScenario (undone (scenario_in t) (Limit Entry link from was)) → next.limits ≡ with_values t.entry.limits link from was.items → next.slots ≡ t.entry.slots → (scenario_in (record t { entry = next }) ≡ undone (scenario_in t) (Limit Entry link from was)) × AreParts (record t { entry = next })
entry_restored t next link from was are is done slots =
    let same : scenario_in (record t { entry = next }) ≡ undone (scenario_in t) (Limit Entry link from was) = ap (λ ls. record (scenario_in t) { entry = ls }) done in (
      same,
      record {
        scenario = subst IsScenario (sym same) is;
        pace = are.pace;
        demand_slots = are.demand_slots;
        splits_slots = are.splits_slots;
        entry_slots = slots ∙ are.entry_slots;
        exit_slots = are.exit_slots;
        demand_most = are.demand_most;
        demand_tabled = are.demand_tabled;
        splits_most = are.splits_most;
      },
    )

pub exit_restored : (t : Parts) (next : LimitsState) (link from : ℕ) (was : Vec ℕ) → AreParts t → IsScenario (undone (scenario_in t) (Limit Exit link from was)) → next.limits ≡ with_values t.exit.limits link from was.items → next.slots ≡ t.exit.slots → (scenario_in (record t { exit = next }) ≡ undone (scenario_in t) (Limit Exit link from was)) × AreParts (record t { exit = next })
exit_restored t next link from was are is done slots =
    let same : scenario_in (record t { exit = next }) ≡ undone (scenario_in t) (Limit Exit link from was) = ap (λ ls. record (scenario_in t) { exit = ls }) done in (
      same,
      record {
        scenario = subst IsScenario (sym same) is;
        pace = are.pace;
        demand_slots = are.demand_slots;
        splits_slots = are.splits_slots;
        entry_slots = are.entry_slots;
        exit_slots = slots ∙ are.exit_slots;
        demand_most = are.demand_most;
        demand_tabled = are.demand_tabled;
        splits_most = are.splits_most;
      },
    )

-- as much as the limits that were set
as_many : (from to count n places : ℕ) → from ≤ to → count ≡ to - from → to * n ≤ places → (from + count) * n ≤ places
as_many from to count n places order is fits = subst (λ k. k * n ≤ places) (let e : to ≡ from + count = omega arith in e) fits

pub entry_undoes : (t : Parts) (next : LimitsState) (link from to : ℕ) (was : Vec ℕ) → AreParts t → AreParts (record t { entry = next }) → link < length t.network.links → from ≤ to → to ≤ t.setup.slots → with_values next.limits link from was.items ≡ t.entry.limits → vec_len was ≡ to - from → to * length t.entry.limits ≤ next.places → Undoes (state_in t) (state_in (record t { entry = next })) (Limit Entry link from was)
entry_undoes t next link from to was are are_next inside order within back count places =
    let long : length next.limits ≡ length t.entry.limits = are_next.scenario.entry.for_each ∙ sym are.scenario.entry.for_each in
    undoes_by (state_in t) (state_in (record t { entry = next })) (Limit Entry link from was) are.scenario
    (ap (λ ls. record (scenario_in t) { entry = ls }) back)
    (omega (arith, are_next.scenario.entry.for_each), omega arith, as_many from to (vec_len was) (length next.limits) next.places order count (subst (λ n. to * n ≤ next.places) (sym long) places))

pub exit_undoes : (t : Parts) (next : LimitsState) (link from to : ℕ) (was : Vec ℕ) → AreParts t → AreParts (record t { exit = next }) → link < length t.network.links → from ≤ to → to ≤ t.setup.slots → with_values next.limits link from was.items ≡ t.exit.limits → vec_len was ≡ to - from → to * length t.exit.limits ≤ next.places → Undoes (state_in t) (state_in (record t { exit = next })) (Limit Exit link from was)
exit_undoes t next link from to was are are_next inside order within back count places =
    let long : length next.limits ≡ length t.exit.limits = are_next.scenario.exit.for_each ∙ sym are.scenario.exit.for_each in
    undoes_by (state_in t) (state_in (record t { exit = next })) (Limit Exit link from was) are.scenario
    (ap (λ ls. record (scenario_in t) { exit = ls }) back)
    (omega (arith, are_next.scenario.exit.for_each), omega arith, as_many from to (vec_len was) (length next.limits) next.places order count (subst (λ n. to * n ≤ next.places) (sym long) places))

-- ---- splits
pub split_undoes : (t : Parts) (next : SplitsData) (key : SplitKey) (weights : List ℕ) (undo : Undo) → AreParts t → IsSplitNote t.splits.rows key undo → put_back next.rows key (row_of t.splits.rows key) ≡ t.splits.rows → row_of next.rows key ≡ Some weights → Undoes (state_in t) (state_in (record t { splits = next })) undo
split_undoes t next key weights (Demand row) are note back stands = absurd note
split_undoes t next key weights (Limit side link from was) are note back stands = absurd note
split_undoes t next key weights (NewSplit at) are note back stands =
    undoes_by (state_in t) (state_in (record t { splits = next })) (NewSplit at) are.scenario
    (ap (λ (rs : List SplitRow). record (scenario_in t) { splits = rs }) (ap (splits.taken_out next.rows) note.0 ∙ ap (put_back next.rows key) (sym note.1) ∙ back))
    tt
split_undoes t next key weights (OldSplit at was) are note back stands =
    let some : IsSome (row_of next.rows at) = ap (λ k. Rattle.std.proofs.Common.is_some (row_of next.rows k)) note.0 ∙ ap Rattle.std.proofs.Common.is_some stands in
    undoes_by (state_in t) (state_in (record t { splits = next })) (OldSplit at was) are.scenario
    (ap (λ (rs : List SplitRow). record (scenario_in t) { splits = rs }) (ap (λ k. splits.put_in next.rows k was.items) note.0 ∙ ap (put_back next.rows key) (sym note.1) ∙ back))
    (some, note.2)
split_undoes t next key weights (Pair node destination was) are note back stands = absurd note
split_undoes t next key weights (Diagram link diagram limits) are note back stands = absurd note
split_undoes t next key weights (Horizon slots) are note back stands = absurd note

pub splits_restored : (t : Parts) (next : SplitsData) (rows : List SplitRow) → AreParts t → IsScenario (record (scenario_in t) { splits = rows }) → next ≡ splits.with_rows t.splits rows → (scenario_in (record t { splits = next }) ≡ record (scenario_in t) { splits = rows }) × AreParts (record t { splits = next })
splits_restored t next rows are is done =
    let same : scenario_in (record t { splits = next }) ≡ record (scenario_in t) { splits = rows } = ap (λ (d : SplitsData). record (scenario_in t) { splits = d.rows }) done in (
      same,
      record {
        scenario = subst IsScenario (sym same) is;
        pace = are.pace;
        demand_slots = are.demand_slots;
        splits_slots = ap (λ (d : SplitsData). d.slots) done ∙ are.splits_slots;
        entry_slots = are.entry_slots;
        exit_slots = are.exit_slots;
        demand_most = are.demand_most;
        demand_tabled = are.demand_tabled;
        splits_most = ap (λ (d : SplitsData). d.most_rows) done ∙ are.splits_most;
      },
    )

-- ---- diagrams
diagram_is_scenario : (s : ScenarioData) (link : ℕ) (diagram : LinkDiagram) → IsScenario s → IsOk (limits_of diagram s.setup.step.0 s.setup.carry) → IsScenario (record s { diagrams = slice_set s.diagrams link diagram })
diagram_is_scenario s link diagram is sets = record {
  setup = is.setup;
  network = is.network;
  most_links = is.most_links;
  diagram_for_each = length-set s.diagrams link diagram ∙ is.diagram_for_each;
  limits = All-set (λ d. IsOk (limits_of d s.setup.step.0 s.setup.carry)) s.diagrams link diagram sets is.limits;
  entry = is.entry;
  exit = is.exit;
  few_destinations = is.few_destinations;
  destinations_are_nodes = is.destinations_are_nodes;
  destinations_apart = is.destinations_apart;
  demand = λ k d below. let r = is.demand k d below in record { origin_is_node = r.origin_is_node; origin_has_out_link = r.origin_has_out_link; destination_is_one = r.destination_is_one; ends_differ = r.ends_differ };
  demand_rows = is.demand_rows;
  splits = λ k d below. let r = is.splits k d below in record { node_is_node = r.node_is_node; destination_is_one = r.destination_is_one; ends_differ = r.ends_differ; weight_for_each = r.weight_for_each };
  weights = is.weights;
}

pub diagrams_changed : (t : Parts) (next : DiagramsState) (link : ℕ) (diagram : LinkDiagram) (limits : Limits) → AreParts t → limits_of diagram t.setup.step.0 t.setup.carry ≡ Ok limits → next.pace ≡ t.diagrams.pace → next.diagrams ≡ slice_set t.diagrams.diagrams link diagram → (scenario_in (record t { diagrams = next }) ≡ record (scenario_in t) { diagrams = slice_set t.diagrams.diagrams link diagram }) × AreParts (record t { diagrams = next })
diagrams_changed t next link diagram limits are sets pace done =
    let same : scenario_in (record t { diagrams = next }) ≡ record (scenario_in t) { diagrams = slice_set t.diagrams.diagrams link diagram } = ap (λ ds. record (scenario_in t) { diagrams = ds }) done in (
      same,
      record {
        scenario = subst IsScenario (sym same) (diagram_is_scenario (scenario_in t) link diagram are.scenario (ap is_ok sets));
        pace = pace ∙ are.pace;
        demand_slots = are.demand_slots;
        splits_slots = are.splits_slots;
        entry_slots = are.entry_slots;
        exit_slots = are.exit_slots;
        demand_most = are.demand_most;
        demand_tabled = are.demand_tabled;
        splits_most = are.splits_most;
      },
    )

pub diagrams_restored : (t : Parts) (next : DiagramsState) (link : ℕ) (diagram : LinkDiagram) (limits : Limits) → AreParts t → limits_of diagram t.setup.step.0 t.setup.carry ≡ Ok limits → next.pace ≡ t.diagrams.pace → next.diagrams ≡ slice_set t.diagrams.diagrams link diagram → (scenario_in (record t { diagrams = next }) ≡ undone (scenario_in t) (Diagram link diagram limits)) × AreParts (record t { diagrams = next })
diagrams_restored t next link diagram limits are sets pace done = diagrams_changed t next link diagram limits are sets pace done

pub diagram_undoes : (t : Parts) (next : DiagramsState) (link : ℕ) (diagram old : LinkDiagram) (limits : Limits) → AreParts t → link < length t.diagrams.diagrams → next.diagrams ≡ slice_set t.diagrams.diagrams link diagram → old ≡ get_or t.diagrams.diagrams link old → limits_of old t.setup.step.0 t.setup.carry ≡ Ok limits → Undoes (state_in t) (state_in (record t { diagrams = next })) (Diagram link old limits)
diagram_undoes t next link diagram old limits are inside done was sets =
    let back : slice_set next.diagrams link old ≡ t.diagrams.diagrams =
    ap (λ ds. slice_set ds link old) done ∙ set-set t.diagrams.diagrams link diagram old ∙ ap (set t.diagrams.diagrams link) was ∙ set-get_or t.diagrams.diagrams link old in
    undoes_by (state_in t) (state_in (record t { diagrams = next })) (Diagram link old limits) are.scenario
    (ap (λ ds. record (scenario_in t) { diagrams = ds }) back)
    (subst (λ n. link < n) (sym (ap length done ∙ length-set t.diagrams.diagrams link diagram)) inside, sets)
