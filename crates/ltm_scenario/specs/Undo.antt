-- What undoes an edit.
use Rattle.std.specs.Prelude.{◌≡◌, ◌+◌, ◌*◌, ◌<◌, ◌≤◌, All, true, length, slice_set, vec_len, IsSome, Ok}
use Rattle.ltm_limits.specs.Limits.{with_values}
use Rattle.ltm_diagram.specs.Limits.{limits_of}
use Rattle.ltm_demand.specs.Rows.{CanRestore, edited_rows}
use Rattle.ltm_splits.specs.Rows.{taken_out, put_in, row_of}
use Rattle.ltm_splits.specs.Replaced.{replaced}
use Rattle.ltm_splits.specs.Weights.{AreWeights}
use Rattle.ltm_scenario.specs.declared.parts.undo.Undo.{Undo}
use Rattle.ltm_scenario.specs.declared.parts.undo.Undo.TheVariants.{Demand, Limit, NewSplit, OldSplit, Pair, Diagram, Horizon}
use Rattle.ltm_scenario.specs.Data.{ScenarioData}
use Rattle.ltm_scenario.specs.Reads.{has_split}
use Rattle.ltm_scenario.specs.Horizon.{with_fewer_slots}
use Rattle.ltm_scenario.specs.Build.{limits_at, with_limits_at}
use Rattle.ltm_scenario.specs.State.{ScenarioState, demand_state, places_at}
use Rattle.ltm_scenario.specs.IsScenario.{IsScenario}

-- what undoing makes of a scenario
abbrev pub undone : ScenarioData → Undo → ScenarioData
undone s (Demand row) = record s { demand = edited_rows s.demand row }
undone s (Limit side link from was) = with_limits_at s side (with_values (limits_at s side) link from was.items)
undone s (NewSplit key) = record s { splits = taken_out s.splits key }
undone s (OldSplit key was) = record s { splits = put_in s.splits key was.items }
undone s (Pair node destination was) = record s { splits = replaced s.splits node.0 destination was }
undone s (Diagram link diagram limits) = record s { diagrams = slice_set s.diagrams link diagram }
undone s (Horizon slots) = with_fewer_slots s slots

-- what undoing asks of the tables, so that it needs no memory
abbrev pub Fits : ScenarioState → Undo → Type 0
Fits s (Demand row) = CanRestore (demand_state s) row
Fits s (Limit side link from was) = let links = length (limits_at s.scenario side) in (link < links) × (from + vec_len was ≤ s.scenario.setup.slots) × ((from + vec_len was) * links ≤ places_at s side)
Fits s (NewSplit key) = Unit {0}
Fits s (OldSplit key was) = IsSome (row_of s.scenario.splits key) × AreWeights was.items
Fits s (Pair node destination was) =
    (has_split s.scenario.splits node.0 destination ≡ true) × All (λ row. AreWeights row.1) was × (length (replaced s.scenario.splits node.0 destination was) ≤ s.scenario.setup.most_split_rows)
Fits s (Diagram link diagram limits) = (link < length s.scenario.diagrams) × (limits_of diagram s.scenario.setup.step.0 s.scenario.setup.carry ≡ Ok limits)
Fits s (Horizon slots) = slots ≤ s.scenario.setup.slots

-- it can be undone without memory, and then is a scenario
pub record CanUndo (s : ScenarioState) (undo : Undo) : Type 0 where
  pub scenario : IsScenario (undone s.scenario undo)
  pub fits : Fits s undo

-- it gives back what was
pub record Undoes (old new : ScenarioState) (undo : Undo) : Type 0 where
  pub back : undone new.scenario undo ≡ old.scenario
  pub can : CanUndo new undo
