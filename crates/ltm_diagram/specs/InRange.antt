-- Between which numbers the limits of a link lie.
use Rattle.std.specs.Prelude.{ℕ, ◌+◌, ◌≡◌, ◌<◌, ◌≤◌, min, Bool, Ok}
use Rattle.ltm_diagram.specs.declared.diagram.Diagram.{Diagram}
use Rattle.ltm_diagram.specs.declared.diagram.Limits.{Limits}
use Rattle.ltm_diagram.specs.Limits.{limits_of}
use Rattle.ltm_diagram.specs.Passing.{capacity_in}
use Rattle.ltm_units.specs.Bounds.{longest_time, most_in_slot, most_on_link}

-- both times are at least a step and at most 1000 hours, 1 to 32,000 units pass in a slot, and 1 to 10^10 fit
pub record AreInRange (step : ℕ) (limits : Limits) : Type 0 where
  pub free_least : step ≤ limits.free_ms
  pub free_most : limits.free_ms ≤ longest_time
  pub wave_least : step ≤ limits.wave_ms
  pub wave_most : limits.wave_ms ≤ longest_time
  pub capacity_least : 1 ≤ limits.capacity
  pub rest : limits.rest < limits.whole
  pub capacity_most : limits.capacity + min 1 limits.rest ≤ most_in_slot
  pub slot_least : (slot : ℕ) → 1 ≤ capacity_in limits slot
  pub slot_most : (slot : ℕ) → capacity_in limits slot ≤ most_in_slot
  pub storage_least : 1 ≤ limits.storage
  pub storage_most : limits.storage ≤ most_on_link

-- wherever a diagram sets limits they lie there
abbrev pub LimitsInRange : Type 0
LimitsInRange = (d : Diagram) (step : ℕ) (carry : Bool) (limits : Limits) → limits_of d step carry ≡ Ok limits → AreInRange step limits
