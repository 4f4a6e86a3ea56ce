-- What a record of signals, or of entry limits, makes of a scenario.
use Rattle.std.specs.Prelude.{Result, Ok, Bool, length, codes, ◌==◌, ◌&&◌}
use Rattle.ltm_units.specs.Results.{found}
use Rattle.ltm_network.specs.Network.{find_link}
use Rattle.ltm_scenario.specs.declared.side.Side.{Side}
use Rattle.ltm_scenario.specs.Data.{ScenarioData}
use Rattle.ltm_scenario.specs.Build.{with_limit_set, ◌>>=◌}
use Rattle.ltm_records.specs.Fields.{Fields, has}
use Rattle.ltm_casefile.specs.declared.faults.CaseCause.{CaseCause}
use Rattle.ltm_casefile.specs.declared.faults.CaseCause.TheVariants.{Unknown, BadSlots}
use Rattle.ltm_casefile.specs.declared.side_limits.LimitRecord.{LimitRecord}
use Rattle.ltm_casefile.specs.Causes.{taken}
use Rattle.ltm_casefile.specs.Fields.{has_width, name_in, number_in, amount_in}

abbrev pub is_limits_header : Fields → Bool
is_limits_header fields =
    (length fields == 4) && has fields 0 (codes "link") && has fields 1 (codes "from_slot") && has fields 2 (codes "to_slot") && has fields 3 (codes "vehicles")

-- link, first slot, slot after the last, the most vehicles in a slot
unfoldable pub limit_record : Fields → Result LimitRecord CaseCause
limit_record fields =
    has_width fields 4 >>= λ _.
    name_in fields 1 >>= λ link.
    number_in fields 2 >>= λ from.
    number_in fields 3 >>= λ to.
    amount_in fields 4 >>= λ amount.
    Ok (record { link = link; from = from; to = to; amount = amount })

-- the scenario with that limit at a side of the link: signals stand at exits
abbrev pub with_limit_record : Side → ScenarioData → LimitRecord → Result ScenarioData CaseCause
with_limit_record side s r =
    found (find_link s.network r.link) (Unknown 1) >>= λ link.
    taken (with_limit_set s side link r.from r.to r.amount.0) BadSlots

abbrev pub limit_added : Side → ScenarioData → Fields → Result ScenarioData CaseCause
limit_added side s fields = limit_record fields >>= λ r. with_limit_record side s r
