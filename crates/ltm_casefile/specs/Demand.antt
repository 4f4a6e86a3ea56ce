-- What a record of demand makes of a scenario.
use Rattle.std.specs.Prelude.{ℕ, List, ◌==◌, not, Result, Ok, unwrap_or, Bool, length, codes, ◌&&◌}
use Rattle.ltm_units.specs.Results.{refuse, found}
use Rattle.ltm_network.specs.Network.{find_node}
use Rattle.ltm_demand.specs.declared.row.DemandRow.{DemandRow}
use Rattle.ltm_scenario.specs.Data.{ScenarioData}
use Rattle.ltm_scenario.specs.Reads.{destination_of, has_no_out_link}
use Rattle.ltm_scenario.specs.Build.{with_destination, with_demand, are_slots, ◌>>=◌}
use Rattle.ltm_records.specs.Fields.{Fields, has}
use Rattle.ltm_casefile.specs.declared.faults.CaseCause.{CaseCause}
use Rattle.ltm_casefile.specs.declared.faults.CaseCause.TheVariants.{Unknown, NoOrigin, SameEnds, BadSlots, TooManyDestinations, TooManyRows}
use Rattle.ltm_casefile.specs.declared.demand.DemandRecord.{DemandRecord}
use Rattle.ltm_casefile.specs.Causes.{taken}
use Rattle.ltm_casefile.specs.Fields.{has_width, name_in, number_in, amount_in}

abbrev pub is_demand_header : Fields → Bool
is_demand_header fields =
    (length fields == 5) && has fields 0 (codes "origin") && has fields 1 (codes "destination") && has fields 2 (codes "from_slot") && has fields 3 (codes "to_slot") && has fields 4 (codes "vehicles")

-- origin, destination, first slot, slot after the last, vehicles
unfoldable pub demand_record : Fields → Result DemandRecord CaseCause
demand_record fields =
    has_width fields 5 >>= λ _.
    name_in fields 1 >>= λ origin.
    name_in fields 2 >>= λ destination.
    number_in fields 3 >>= λ from.
    number_in fields 4 >>= λ to.
    amount_in fields 5 >>= λ amount.
    Ok (record { origin = origin; destination = destination; from = from; to = to; amount = amount })

-- an origin and a destination by number
unfoldable pub pair_ends : ScenarioData → List ℕ → List ℕ → Result (ℕ × ℕ) CaseCause
pair_ends s from to =
    found (find_node s.network from) (Unknown 1) >>= λ origin.
    found (find_node s.network to) (Unknown 2) >>= λ end.
    refuse (has_no_out_link s origin) NoOrigin >>= λ _.
    refuse (origin == end) SameEnds >>= λ _.
    Ok (origin, end)

-- those of a record, whose slots are within the horizon
abbrev pub demand_ends : ScenarioData → DemandRecord → Result (ℕ × ℕ) CaseCause
demand_ends s r =
    pair_ends s r.origin r.destination >>= λ ends.
    refuse (not (are_slots s r.from r.to)) BadSlots >>= λ _.
    Ok ends

-- the place of a node that is a destination
abbrev pub place_of : ScenarioData → ℕ → ℕ
place_of s node = unwrap_or (destination_of s.destinations node) 0

abbrev pub demand_row : ScenarioData → DemandRecord → (ℕ × ℕ) → DemandRow
demand_row s r ends = record { origin = record { 0 = ends.0 }; destination = place_of s ends.1; from = r.from; to = r.to; amount = r.amount }

-- the scenario with that row, in which the row's end is a destination
abbrev pub with_demand_record : ScenarioData → DemandRecord → Result ScenarioData CaseCause
with_demand_record s r =
    demand_ends s r >>= λ ends.
    taken (with_destination s ends.1) TooManyDestinations >>= λ next.
    taken (with_demand next (demand_row next r ends)) TooManyRows

abbrev pub demand_added : ScenarioData → Fields → Result ScenarioData CaseCause
demand_added s fields = demand_record fields >>= λ r. with_demand_record s r
