-- A longer horizon, and the way back.
use Rattle.std.specs.Prelude.{ℕ, ◌≤◌, ◌≡◌, ◌&&◌, Bool, true, nat_le, nat_lt, Result, Ok, Err, if◌then◌else◌}
use Rattle.ltm_limits.specs.Limits.{limits_over, limits_within}
use Rattle.ltm_scenario.specs.declared.setup.Setup.{Setup}
use Rattle.ltm_scenario.specs.declared.faults.HorizonFault.{HorizonFault}
use Rattle.ltm_scenario.specs.declared.faults.HorizonFault.TheVariants.{BadSlots, CellsOver}
use Rattle.ltm_scenario.specs.Data.{ScenarioData}
use Rattle.ltm_scenario.specs.Cells.{cells_with, has_room}
use Rattle.ltm_units.specs.Bounds.{most_slots}

-- the setup with another horizon
abbrev pub setup_over : Setup → ℕ → Setup
setup_over setup slots = record setup { slots = slots }

-- the scenario over a longer horizon: entry and exit limits of the new slots were never set, and all rows stay
abbrev pub with_slots : ScenarioData → ℕ → ScenarioData
with_slots s slots = record s { setup = setup_over s.setup slots; entry = limits_over s.entry slots; exit = limits_over s.exit slots }

-- the scenario over a shorter horizon
abbrev pub with_fewer_slots : ScenarioData → ℕ → ScenarioData
with_fewer_slots s slots = record s { setup = setup_over s.setup slots; entry = limits_within s.entry slots; exit = limits_within s.exit slots }

-- the horizon is longer than it was, and at most 10,000
abbrev pub is_longer : ScenarioData → ℕ → Bool
is_longer s slots = nat_lt s.setup.slots slots && nat_le slots most_slots

-- the scenario over that many slots, or why the horizon is not raised to them
unfoldable pub with_horizon : ScenarioData → ℕ → Result ScenarioData HorizonFault
with_horizon s slots =
    if is_longer s slots
    then (if has_room s (cells_with s slots) then Ok (with_slots s slots) else Err (CellsOver (cells_with s slots)))
    else Err BadSlots

-- a horizon that is no shorter than the scenario's, of at most 10,000 slots, and over which its cells are few, where its history is kept
pub record MayReach (s : ScenarioData) (slots : ℕ) : Type 0 where
  pub longer : s.setup.slots ≤ slots
  pub most : slots ≤ most_slots
  pub small : has_room s (cells_with s slots) ≡ true
