-- The records of a file, one after the other.
use Rattle.std.specs.Prelude.{ℕ, ◌+◌, Bool, not, List, [], ◌∷◌, Result, Ok, Err}
use Rattle.ltm_units.specs.Results.{refuse}
use Rattle.ltm_scenario.specs.Build.{◌>>=◌}
use Rattle.ltm_records.specs.Fields.{Fields}
use Rattle.ltm_casefile.specs.declared.faults.CaseCause.{CaseCause}
use Rattle.ltm_casefile.specs.declared.faults.CaseCause.TheVariants.{Header}
use Rattle.ltm_casefile.specs.declared.faults.CaseFault.{CaseFault}
use Rattle.ltm_casefile.specs.declared.faults.CaseFault.TheVariants.{Bad}
use Rattle.ltm_casefile.specs.declared.faults.File.{File}

-- a record's cause, with its file and its row
abbrev pub at_row : {A : Type 0} → File → ℕ → Result A CaseCause → Result A CaseFault
at_row f row (Ok x) = Ok x
at_row f row (Err cause) = Err (Bad f row cause)

-- what the records make of a state, the first of which is in that row; or the fault of the first that is not taken
abbrev pub rows_from : {S : Type 0} → File → (S → Fields → Result S CaseCause) → ℕ → S → List Fields → Result S CaseFault
rows_from f step row s [] = Ok s
rows_from f step row s (fields ∷ rest) = at_row f row (step s fields) >>= λ next. rows_from f step (row + 1) next rest

-- the records below a header
abbrev pub below_header : {A : Type 0} → File → (Fields → Bool) → (Fields → List Fields → Result A CaseFault) → List Fields → Result A CaseFault
below_header f is_header more [] = Err (Bad f 1 Header)
below_header f is_header more (header ∷ rows) = at_row f 1 (refuse (not (is_header header)) Header) >>= λ _. more header rows
