-- The line of a travel time.
use Rattle.std.specs.Prelude.{ℕ, List, ◌++◌, codes, Option, Some, None}
use Rattle.ltm_units.specs.Texts.{number_piece}
use Rattle.ltm_report.specs.Pieces.{version_piece, newline}
use Rattle.ltm_report.specs.Links.{name_piece}

-- milliseconds, or `none` where those before have not left by the end
unfoldable pub time_words : Option ℕ → List ℕ
time_words None = codes " time none"
time_words (Some time) = number_piece (codes " time ") time

-- the slot at whose beginning a vehicle enters, as ` slot 3`
unfoldable pub slot_piece : ℕ → List ℕ
slot_piece slot = number_piece (codes " slot ") slot

-- how long a vehicle takes to pass a link, as `version 1 link a slot 3 time 2000`
unfoldable pub time_line : ℕ → List ℕ → ℕ → Option ℕ → List ℕ
time_line version name slot time = version_piece version ++ codes " " ++ name_piece name ++ slot_piece slot ++ time_words time ++ newline
