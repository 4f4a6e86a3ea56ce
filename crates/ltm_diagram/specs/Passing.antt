-- How much passes in each slot.
use Rattle.std.specs.Prelude.{◌≡◌, ℕ, ◌+◌, ◌-◌, ◌*◌, ◌/◌, ◌≤◌, Bool, true, false, Ok}
use Rattle.ltm_units.specs.Sums.{sum_below}
use Rattle.ltm_diagram.specs.declared.diagram.Diagram.{Diagram}
use Rattle.ltm_diagram.specs.declared.diagram.Limits.{Limits}
use Rattle.ltm_diagram.specs.Limits.{limits_of, flow_of, parts_of, capacity_of}

-- what the first slots let through together: so many times the exact capacity, rounded down
abbrev pub through : Limits → ℕ → ℕ
through limits slots = (limits.capacity * limits.whole + limits.rest) * slots / limits.whole

-- the capacity in a slot: what the first slots up to it let through, less what those before it do
unfoldable pub capacity_in : Limits → ℕ → ℕ
capacity_in limits slot = through limits (slot + 1) - through limits slot

-- with what is left over carried, all slots together pass the exact capacity, less than a thousandth of a vehicle below it
abbrev pub NothingIsLost : Type 0
NothingIsLost =
    (d : Diagram) (step slots : ℕ) (limits : Limits) → limits_of d step true ≡ Ok limits →
    sum_below slots (capacity_in limits) ≡ flow_of d step * slots / parts_of d

-- else each slot passes the same, rounded down
abbrev pub AllSlotsAlike : Type 0
AllSlotsAlike =
    (d : Diagram) (step slot : ℕ) (limits : Limits) → limits_of d step false ≡ Ok limits →
    (capacity_in limits slot ≡ limits.capacity) × (limits.capacity ≡ capacity_of d step)

-- a slot passes the whole thousandths, or one more
abbrev pub WholeOrOneMore : Type 0
WholeOrOneMore =
    (d : Diagram) (step slot : ℕ) (carry : Bool) (limits : Limits) → limits_of d step carry ≡ Ok limits →
    (limits.capacity ≤ capacity_in limits slot) × (capacity_in limits slot ≤ limits.capacity + 1)
