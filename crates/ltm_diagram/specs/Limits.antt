-- The limits of a link in slots of a step, or the first fault of its diagram.
use Rattle.std.specs.Prelude.{ℕ, ◌+◌, ◌*◌, ◌/◌, ◌%◌, ◌==◌, ◌||◌, Bool, nat_lt, min, Result, Ok, if◌then◌else◌}
use Rattle.std.specs.Int.{div_ceil}
use Rattle.ltm_units.specs.Results.{refuse, ◌>>>◌}
use Rattle.ltm_diagram.specs.declared.diagram.Diagram.{Diagram}
use Rattle.ltm_diagram.specs.declared.diagram.Limits.{Limits}
use Rattle.ltm_diagram.specs.declared.diagram.Field.{Field}
use Rattle.ltm_diagram.specs.declared.diagram.Field.TheVariants.{Length, Free, Wave, Jam}
use Rattle.ltm_diagram.specs.declared.diagram.DiagramFault.{DiagramFault}
use Rattle.ltm_diagram.specs.declared.diagram.DiagramFault.TheVariants.{Zero, Over, StepTooLong, NoCapacity, CapacityOver}
use Rattle.ltm_units.specs.Bounds.{most_in_slot, most_per_km}

-- the milliseconds in which a vehicle drives through a link at free speed: at 1 km/h a metre takes 3600
abbrev pub free_flow_time : Diagram → ℕ
free_flow_time d = div_ceil (d.length_m * 3600) d.free_kmh

-- the milliseconds in which a wave of queued traffic runs back through it
abbrev pub wave_time : Diagram → ℕ
wave_time d = div_ceil (d.length_m * 3600) d.wave_kmh

-- the thousandths of a vehicle that pass in a slot where free and queued traffic meet are flow_of / parts_of, a fraction
abbrev pub flow_of : Diagram → ℕ → ℕ
flow_of d step = d.jam_per_km * d.free_kmh * d.wave_kmh * step

abbrev pub parts_of : Diagram → ℕ
parts_of d = (d.free_kmh + d.wave_kmh) * 3600

-- the whole ones
abbrev pub capacity_of : Diagram → ℕ → ℕ
capacity_of d step = flow_of d step / parts_of d

-- what is left over, in parts of a thousandth: carried from slot to slot, or let go
abbrev pub rest_of : Diagram → ℕ → Bool → ℕ
rest_of d step carry = if carry then flow_of d step % parts_of d else 0

abbrev pub whole_of : Diagram → Bool → ℕ
whole_of d carry = if carry then parts_of d else 1

-- the most that passes in a slot: one more where something is carried
abbrev pub most_of : Diagram → ℕ → Bool → ℕ
most_of d step carry = capacity_of d step + min 1 (rest_of d step carry)

-- the thousandths of a vehicle that stand on it at jam density
abbrev pub storage_of : Diagram → ℕ
storage_of d = d.jam_per_km * d.length_m

-- a field is at least 1 and at most its limit
abbrev pub field_in_range : Field → ℕ → ℕ → Result (Unit {0}) DiagramFault
field_in_range field most value = refuse (value == 0) (Zero field) >>> refuse (nat_lt most value) (Over field)

-- the limits, or the first fault: of a field, of the times, of the capacity
unfoldable pub limits_of : Diagram → ℕ → Bool → Result Limits DiagramFault
limits_of d step carry =
    field_in_range Length 1000000 d.length_m
    >>> field_in_range Free 1000 d.free_kmh
    >>> field_in_range Wave 1000 d.wave_kmh
    >>> field_in_range Jam most_per_km d.jam_per_km
    >>> refuse (nat_lt (free_flow_time d) step || nat_lt (wave_time d) step) (StepTooLong (free_flow_time d) (wave_time d))
    >>> refuse (capacity_of d step == 0) NoCapacity
    >>> refuse (nat_lt most_in_slot (most_of d step carry)) CapacityOver
    >>> Ok (record {
      free_ms = free_flow_time d;
      wave_ms = wave_time d;
      capacity = capacity_of d step;
      rest = rest_of d step carry;
      whole = whole_of d carry;
      storage = storage_of d;
    })
