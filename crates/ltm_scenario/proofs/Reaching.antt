-- Which horizons a scenario may have.
use Rattle.std.proofs.Common.{◌≡◌, ℕ, ◌≤◌, ◌↔◌, List, Ok, true, refl, sym, ap, subst, ◌∙◌, arith}
use Rattle.std.specs.Prelude.{◌||◌, not, nat_le, IsTrue}
use Rattle.ltm_units.specs.Bounds.{most_slots}
use Rattle.ltm_scenario.specs.declared.edit.Edit.{Edit}
use Rattle.ltm_scenario.specs.declared.setup.Setup.{Setup}
use Rattle.ltm_scenario.specs.Data.{ScenarioData}
use Rattle.ltm_scenario.specs.Cells.{widths, cells, cells_with, has_room}
use Rattle.ltm_scenario.specs.IsScenario.{IsScenario}
use Rattle.ltm_scenario.specs.Shape.{SameShape}
use Rattle.ltm_scenario.specs.Valid.{IsValid}
use Rattle.ltm_scenario.specs.Horizon.{MayReach}
use Rattle.ltm_scenario.specs.Edits.{edited_from, horizon_after}
use Rattle.ltm_scenario.proofs.Batches.{batch_keeps_shape, batch_keeps_valid, batch_sets_horizon}

-- the present horizon
pub may_stay : (s : ScenarioData) (slots : ℕ) → IsScenario s → IsValid s → slots ≡ s.setup.slots → MayReach s slots
unfolding cells
may_stay s slots is valid now = record {
  longer = omega (arith, now);
  most = omega (arith, now, is.setup.slots_most);
  small = subst (λ (n : ℕ). has_room s (cells_with s n) ≡ true) (sym now) valid.small;
}

-- a longer one
pub may_grow : (s : ScenarioData) (slots count : ℕ) → count ≡ cells_with s slots → s.setup.slots ≤ slots → slots ≤ most_slots → IsTrue (has_room s count) ↔ MayReach s slots
may_grow s slots count is longer within = (
  λ low. record { longer = longer; most = within; small = ap (has_room s) (sym is) ∙ low },
  λ may. ap (has_room s) is ∙ may.small,
)

-- the horizon that a batch leaves
cells_there : (s next : ScenarioData) → SameShape s next → cells next ≡ cells_with s next.setup.slots
unfolding cells cells_with widths
cells_there s next shape = rw (shape.network, shape.destinations) refl

pub batch_reaches : (place : ℕ) (s next : ScenarioData) (edits : List Edit) → edited_from place s edits ≡ Ok next → IsValid s → IsScenario next → MayReach s (horizon_after s.setup.slots edits)
batch_reaches place s next edits is valid scenario =
    let shape = batch_keeps_shape place s next edits is in
    let small = (batch_keeps_valid place s next edits is valid).small in
    subst (MayReach s) (batch_sets_horizon place s next edits is)
    (record { longer = shape.slots; most = scenario.setup.slots_most; small = ap (has_room s) (sym (cells_there s next shape)) ∙ ap (λ (z : Setup). not z.history || nat_le (cells next) z.most_cells) (sym shape.setup) ∙ small })
