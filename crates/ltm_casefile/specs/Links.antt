-- What a record of links makes of a scenario.
use Rattle.std.specs.Prelude.{Result, Ok, Err, Bool, length, codes, ◌==◌, ◌&&◌}
use Rattle.ltm_network.specs.declared.network.NetworkFault.TheVariants as network
use Rattle.ltm_scenario.specs.declared.faults.LinkFault.{LinkFault}
use Rattle.ltm_scenario.specs.declared.faults.LinkFault.TheVariants.{Network as RefusedByNetwork, Diagram as BadDiagram, NoMemory}
use Rattle.ltm_scenario.specs.Data.{ScenarioData}
use Rattle.ltm_scenario.specs.Build.{with_link, ◌>>=◌}
use Rattle.ltm_records.specs.Fields.{Fields, has}
use Rattle.ltm_casefile.specs.declared.faults.CaseCause.{CaseCause}
use Rattle.ltm_casefile.specs.declared.faults.CaseCause.TheVariants.{Network, Diagram}
use Rattle.ltm_casefile.specs.declared.links.LinkRecord.{LinkRecord}
use Rattle.ltm_casefile.specs.Fields.{has_width, name_in, number_in}

abbrev pub is_links_header : Fields → Bool
is_links_header fields =
    (length fields == 7) && has fields 0 (codes "link") && has fields 1 (codes "from") && has fields 2 (codes "to") && has fields 3 (codes "length_m") && has fields 4 (codes "free_kmh") && has fields 5 (codes "wave_kmh") && has fields 6 (codes "jam_per_km")

-- name, tail, head, length in metres, free speed and wave speed in km/h, jam density in vehicles per km
unfoldable pub link_record : Fields → Result LinkRecord CaseCause
link_record fields =
    has_width fields 7 >>= λ _.
    name_in fields 1 >>= λ name.
    name_in fields 2 >>= λ tail.
    name_in fields 3 >>= λ head.
    number_in fields 4 >>= λ length_m.
    number_in fields 5 >>= λ free_kmh.
    number_in fields 6 >>= λ wave_kmh.
    number_in fields 7 >>= λ jam_per_km.
    Ok (record { name = name; tail = tail; head = head; diagram = record { length_m = length_m; free_kmh = free_kmh; wave_kmh = wave_kmh; jam_per_km = jam_per_km } })

-- with_link is never refused for want of memory
abbrev pub cause_of_link : LinkFault → CaseCause
cause_of_link (RefusedByNetwork fault) = Network fault
cause_of_link (BadDiagram fault) = Diagram fault
cause_of_link NoMemory = Network network.NoMemory

abbrev pub linked : Result ScenarioData LinkFault → Result ScenarioData CaseCause
linked (Ok s) = Ok s
linked (Err fault) = Err (cause_of_link fault)

-- the scenario with the link, or what its network and then its diagram lack
abbrev pub with_link_record : ScenarioData → LinkRecord → Result ScenarioData CaseCause
with_link_record s r = linked (with_link s r.name r.tail r.head r.diagram)

abbrev pub link_added : ScenarioData → Fields → Result ScenarioData CaseCause
link_added s fields = link_record fields >>= λ r. with_link_record s r
