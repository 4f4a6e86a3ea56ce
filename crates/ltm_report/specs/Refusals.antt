-- The lines that refuse a question or the rest of a script.
use Rattle.std.specs.Prelude.{ℕ, List, ◌++◌, codes}
use Rattle.ltm_units.specs.Texts.{number_piece}
use Rattle.ltm_report.specs.Pieces.{newline}

-- nothing has the name that a question names, as `refused queue UnknownName`
unfoldable pub unknown_name_line : List ℕ → List ℕ
unknown_name_line question = codes "refused " ++ question ++ codes " UnknownName\n"

-- the slot or boundary that a question names is not one of the loading that is shown, as `refused queue BadSlots`
unfoldable pub bad_slots_line : List ℕ → List ℕ
bad_slots_line question = codes "refused " ++ question ++ codes " BadSlots\n"

-- which line of a script has more bytes than are read, counted from 1
unfoldable pub long_piece : ℕ → List ℕ
long_piece number = number_piece (codes "too long line ") number

-- a script ends at a line that is too long, as `too long line 3`
unfoldable pub long_script_line : ℕ → List ℕ
long_script_line number = long_piece number ++ newline

-- a script has more lines than are answered
unfoldable pub too_many_line : List ℕ
too_many_line = codes "too many commands\n"
