-- What a record of splits makes of a scenario.
use Rattle.std.specs.Prelude.{ℕ, ◌==◌, not, nat_lt, sum, Result, Ok, Bool, length, codes, ◌&&◌}
use Rattle.std.specs.List.{list_all}
use Rattle.ltm_units.specs.Results.{refuse, found}
use Rattle.ltm_network.specs.Network.{find_node}
use Rattle.ltm_splits.specs.Rows.{key_of}
use Rattle.ltm_scenario.specs.Data.{ScenarioData}
use Rattle.ltm_scenario.specs.Build.{with_destination, with_split, ◌>>=◌}
use Rattle.ltm_scenario.specs.Edits.{is_out_link, weights_at}
use Rattle.ltm_records.specs.Fields.{Fields, has}
use Rattle.ltm_casefile.specs.declared.faults.CaseCause.{CaseCause}
use Rattle.ltm_casefile.specs.declared.faults.CaseCause.TheVariants.{Unknown, SameEnds, BadSlots, ZeroWeight, TooManyDestinations, TooManyRows}
use Rattle.ltm_casefile.specs.declared.splits.SplitRecord.{SplitRecord}
use Rattle.ltm_casefile.specs.Causes.{taken}
use Rattle.ltm_casefile.specs.Fields.{has_width, name_in, number_in, weights_in}
use Rattle.ltm_casefile.specs.Demand.{place_of}

abbrev pub is_splits_header : Fields → Bool
is_splits_header fields =
    (length fields == 4) && has fields 0 (codes "node") && has fields 1 (codes "destination") && has fields 2 (codes "from_slot") && has fields 3 (codes "weights")

-- node, destination, first slot, weights by out-link
unfoldable pub split_record : Fields → Result SplitRecord CaseCause
split_record fields =
    has_width fields 4 >>= λ _.
    name_in fields 1 >>= λ node.
    name_in fields 2 >>= λ destination.
    number_in fields 3 >>= λ from.
    weights_in fields 4 >>= λ weights.
    Ok (record { node = node; destination = destination; from = from; weights = weights })

-- the node and the destination by number
unfoldable pub split_ends : ScenarioData → SplitRecord → Result (ℕ × ℕ) CaseCause
split_ends s r =
    found (find_node s.network r.node) (Unknown 1) >>= λ node.
    found (find_node s.network r.destination) (Unknown 2) >>= λ end.
    refuse (node == end) SameEnds >>= λ _.
    refuse (not (nat_lt r.from s.setup.slots)) BadSlots >>= λ _.
    refuse (not (list_all (λ w. is_out_link s node w.0) r.weights)) (Unknown 4) >>= λ _.
    Ok (node, end)

-- the scenario with that row, in which the row's end is a destination
abbrev pub with_split_record : ScenarioData → SplitRecord → Result ScenarioData CaseCause
with_split_record s r =
    split_ends s r >>= λ ends.
    refuse (sum (weights_at s ends.0 r.weights) == 0) ZeroWeight >>= λ _.
    taken (with_destination s ends.1) TooManyDestinations >>= λ next.
    taken (with_split next (key_of ends.0 (place_of next ends.1) r.from) (weights_at s ends.0 r.weights)) TooManyRows

abbrev pub split_added : ScenarioData → Fields → Result ScenarioData CaseCause
split_added s fields = split_record fields >>= λ r. with_split_record s r
