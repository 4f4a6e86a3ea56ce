-- The fields of a record, each of its kind, or the cause that names the field. Fields are counted from 1.
use Rattle.std.specs.Prelude.{ℕ, ◌-◌, ◌==◌, not, List, length, option_and_then, Result}
use Rattle.ltm_units.specs.declared.names.Name.{Name}
use Rattle.ltm_units.specs.declared.quantities.Units.{Units}
use Rattle.ltm_units.specs.Results.{refuse, found}
use Rattle.ltm_records.specs.Fields.{Fields, field as text_at, name_at, whole_at, vehicles_at}
use Rattle.ltm_records.specs.Weights.{weights_of}
use Rattle.ltm_scenario.specs.Weights.{NamedWeight, as_weights}
use Rattle.ltm_casefile.specs.declared.faults.CaseCause.{CaseCause}
use Rattle.ltm_casefile.specs.declared.faults.CaseCause.TheVariants.{Width, Field}

abbrev pub has_width : Fields → ℕ → Result (Unit {0}) CaseCause
has_width fields width = refuse (not (length fields == width)) Width

abbrev pub name_in : Fields → ℕ → Result Name CaseCause
name_in fields field = found (name_at fields (field - 1)) (Field field)

abbrev pub number_in : Fields → ℕ → Result ℕ CaseCause
number_in fields field = found (whole_at fields (field - 1)) (Field field)

abbrev pub amount_in : Fields → ℕ → Result Units CaseCause
amount_in fields field = found (vehicles_at fields (field - 1)) (Field field)

-- one to four weights, each with the name of a link, no name twice
abbrev pub weights_in : Fields → ℕ → Result (List NamedWeight) CaseCause
weights_in fields field = found (option_and_then as_weights (weights_of (text_at fields (field - 1)))) (Field field)
