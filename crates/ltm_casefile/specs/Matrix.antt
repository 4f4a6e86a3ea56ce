-- What a record of a matrix makes of a scenario: a row of demand for each slice of the profile.
use Rattle.std.specs.Prelude.{◌≡◌, ℕ, ◌-◌, ◌*◌, ◌/◌, ◌==◌, ◌&&◌, Bool, false, List, [], ◌∷◌, length, codes, sum_by, Result, Ok}
use Rattle.ltm_demand.specs.declared.row.DemandRow.{DemandRow}
use Rattle.ltm_demand.specs.declared.row.DemandFault.{DemandFault}
use Rattle.ltm_scenario.specs.Data.{ScenarioData}
use Rattle.ltm_scenario.specs.Build.{with_destination, with_demand, ◌>>=◌}
use Rattle.ltm_records.specs.Fields.{Fields, has}
use Rattle.ltm_records.specs.Left.{records_of}
use Rattle.ltm_casefile.specs.declared.faults.CaseCause.{CaseCause}
use Rattle.ltm_casefile.specs.declared.faults.CaseCause.TheVariants.{TooManyDestinations, TooManyRows}
use Rattle.ltm_casefile.specs.declared.faults.CaseFault.{CaseFault}
use Rattle.ltm_casefile.specs.declared.faults.File.TheVariants as file
use Rattle.ltm_casefile.specs.declared.profile.Slice.{Slice}
use Rattle.ltm_casefile.specs.declared.matrix.MatrixRecord.{MatrixRecord}
use Rattle.ltm_casefile.specs.Causes.{taken}
use Rattle.ltm_casefile.specs.Demand.{pair_ends, place_of}
use Rattle.ltm_casefile.specs.Fields.{has_width, name_in, amount_in}
use Rattle.ltm_casefile.specs.Profile.{ProfileData, profile_of}
use Rattle.ltm_casefile.specs.Rows.{rows_from, below_header}

abbrev pub is_matrix_header : Fields → Bool
is_matrix_header fields = (length fields == 3) && has fields 0 (codes "origin") && has fields 1 (codes "destination") && has fields 2 (codes "vehicles")

-- whether the records are those of a matrix
abbrev pub are_matrix : List Fields → Bool
are_matrix [] = false
are_matrix (header ∷ rows) = is_matrix_header header

abbrev pub is_matrix : List ℕ → Bool
is_matrix bytes = are_matrix (records_of bytes)

-- origin, destination, vehicles
unfoldable pub matrix_record : Fields → Result MatrixRecord CaseCause
matrix_record fields =
    has_width fields 3 >>= λ _.
    name_in fields 1 >>= λ origin.
    name_in fields 2 >>= λ destination.
    amount_in fields 3 >>= λ amount.
    Ok (record { origin = origin; destination = destination; amount = amount })

-- what the slices get whose shares come to `shares` of `total`, rounded down to whole thousandths
abbrev pub given : ℕ → ℕ → ℕ → ℕ
given total amount shares = amount * shares / total

-- what a slice gets: what the slices up to it get, less what those before it get
abbrev pub part_of : ℕ → ℕ → Slice → ℕ
part_of total amount slice = given total amount slice.up_to - given total amount slice.before

-- the row of a slice, of a row that holds all that is split
abbrev pub slice_row : ℕ → DemandRow → Slice → DemandRow
slice_row total row slice = record row { from = slice.from; to = slice.to; amount = record { 0 = part_of total row.amount.0 slice } }

-- the scenario with the rows of the slices, in their order; a slice that gets nothing makes no row, and takes out the one that an
-- earlier record of the same ends has made of it
abbrev pub slices_set : ℕ → DemandRow → ScenarioData → List Slice → Result ScenarioData DemandFault
slices_set total row s [] = Ok s
slices_set total row s (slice ∷ slices) = with_demand s (slice_row total row slice) >>= λ next. slices_set total row next slices

-- all that a record says, in no slots yet
abbrev pub whole_row : ScenarioData → MatrixRecord → (ℕ × ℕ) → DemandRow
whole_row s r ends = record { origin = record { 0 = ends.0 }; destination = place_of s ends.1; from = 0; to = 0; amount = r.amount }

-- the scenario with the rows of a record, in which the record's end is a destination
abbrev pub with_matrix_record : ProfileData → ScenarioData → MatrixRecord → Result ScenarioData CaseCause
with_matrix_record p s r =
    pair_ends s r.origin r.destination >>= λ ends.
    taken (with_destination s ends.1) TooManyDestinations >>= λ next.
    taken (slices_set p.total (whole_row next r ends) next p.slices) TooManyRows

abbrev pub matrix_row_added : ProfileData → ScenarioData → Fields → Result ScenarioData CaseCause
matrix_row_added p s fields = matrix_record fields >>= λ r. with_matrix_record p s r

-- the scenario with what the records of a matrix say
unfoldable pub matrix_added : ProfileData → ScenarioData → List Fields → Result ScenarioData CaseFault
matrix_added p s rows = below_header file.Demand is_matrix_header (λ _ rest. rows_from file.Demand (matrix_row_added p) 2 s rest) rows

-- the same, of a profile and of a matrix as they stand in their files
abbrev pub with_matrix : ScenarioData → List ℕ → List ℕ → Result ScenarioData CaseFault
with_matrix s profile matrix = profile_of s.setup.slots (records_of profile) >>= λ p. matrix_added p s (records_of matrix)

-- ---- no unit is lost
-- what the slices of a profile get of an amount is the amount
abbrev pub NothingIsLost : Type 0
NothingIsLost =
    (slots : ℕ) (rows : List Fields) (p : ProfileData) → profile_of slots rows ≡ Ok p
    → (amount : ℕ) → sum_by (part_of p.total amount) p.slices ≡ amount
