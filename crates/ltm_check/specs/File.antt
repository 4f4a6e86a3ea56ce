-- What a curve file is: a header, and below it for each group and destination a record with its counts at all boundaries.
use Rattle.std.specs.Prelude.{ℕ, ◌≡◌, ◌<◌, ◌+◌, ◌==◌, ◌&&◌, ◌⊎◌, not, Bool, true, false, nat_lt, List, [], ◌∷◌, length, drop, codes, slice_get, slice_index, slice_index_or, Option, Some, None, if◌then◌else◌}
use Rattle.ltm_curve.specs.Counts.{Counts}
use Rattle.ltm_scenario.specs.Data.{ScenarioData}
use Rattle.ltm_scenario.specs.Reads.{destination_name}
use Rattle.ltm_records.specs.Fields.{Fields, field, has}
use Rattle.ltm_setting.specs.Setting.{setting_of}
use Rattle.ltm_check.specs.declared.faults.CurvesCause.{CurvesCause}
use Rattle.ltm_check.specs.declared.faults.CurvesCause.TheVariants.{Header, Width, Field, Rows}
use Rattle.ltm_check.specs.CountsTold.{counts_told}
use Rattle.ltm_check.specs.Due.{record_count, record_place, group_at, destination_at, kind_of, name_of}

abbrev pub is_curves_header : Fields → Bool
is_curves_header fields =
    (length fields == 4) && has fields 0 (codes "kind") && has fields 1 (codes "name") && has fields 2 (codes "destination") && has fields 3 (codes "counts")

-- the counts that a record tells
abbrev pub counts_in : ScenarioData → Fields → Option (List ℕ)
counts_in s fields = counts_told ((setting_of s).slots + 1) (field fields 3)

abbrev pub if_none : Option (List ℕ) → CurvesCause → Option CurvesCause
if_none None cause = Some cause
if_none (Some counts) cause = None

-- the first thing that is wrong with a record where that of a group and a destination is due
abbrev pub fault_of : ScenarioData → ℕ → ℕ → Fields → Option CurvesCause
fault_of s group destination fields =
    if not (length fields == 4) then Some Width
    else if not (has fields 0 (kind_of s group)) then Some (Field 1)
    else if not (has fields 1 (name_of s group destination)) then Some (Field 2)
    else if not (has fields 2 (destination_name s destination)) then Some (Field 3)
    else if_none (counts_in s fields) (Field 4)

-- the same at a place below the header, where a record may be missing or too much
abbrev pub fault_where : ScenarioData → ℕ → Bool → Option Fields → Option CurvesCause
fault_where s place true (Some fields) = fault_of s (group_at s place) (destination_at s place) fields
fault_where s place true None = Some Rows
fault_where s place false (Some fields) = Some Rows
fault_where s place false None = None

abbrev pub fault_at : ScenarioData → List Fields → ℕ → Option CurvesCause
fault_at s rows place = fault_where s place (nat_lt place (record_count s)) (slice_get rows place)

-- nothing is wrong at the first places
abbrev pub AreRightBelow : ScenarioData → List Fields → ℕ → Type 0
AreRightBelow s rows places = (place : ℕ) → place < places → fault_at s rows place ≡ None

-- the first record of a file is the header
abbrev pub is_headed : List Fields → Bool
is_headed [] = false
is_headed (header ∷ rows) = is_curves_header header

abbrev pub rows_of : List Fields → List Fields
rows_of records = drop 1 records

-- the records are a curve file of the scenario
pub record IsCurveFile (s : ScenarioData) (records : List Fields) : Type 0 where
  pub headed : is_headed records ≡ true
  pub right : AreRightBelow s (rows_of records) (record_count s + 1)

-- the first record at which the records are no curve file of the scenario, and what is wrong there; the header is record 1
abbrev pub IsFirstFault : ScenarioData → List Fields → ℕ → CurvesCause → Type 0
IsFirstFault s records row cause =
    ((is_headed records ≡ false) × (row ≡ 1) × (cause ≡ Header))
    ⊎ ((is_headed records ≡ true) × ((place : ℕ) × (row ≡ place + 2) × (fault_at s (rows_of records) place ≡ Some cause) × AreRightBelow s (rows_of records) place))

-- ---- the counts that a curve file tells
abbrev pub or_no_counts : Option (List ℕ) → List ℕ
or_no_counts None = []
or_no_counts (Some counts) = counts

abbrev pub counts_at : ScenarioData → List Fields → ℕ → List ℕ
counts_at s rows place = or_no_counts (counts_in s (slice_index_or rows place []))

-- those of a group, a destination and a boundary, of the records below the header
unfoldable pub told_by : ScenarioData → List Fields → Counts
told_by s rows group destination boundary = slice_index (counts_at s rows (record_place s group destination)) boundary

abbrev pub told : ScenarioData → List Fields → Counts
told s records = told_by s (rows_of records)
