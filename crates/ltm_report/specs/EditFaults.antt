-- The line that refuses a batch of edits.
use Rattle.std.specs.Prelude.{ℕ, List, ◌++◌, codes}
use Rattle.ltm_scenario.specs.declared.edit.EditCause.{EditCause}
use Rattle.ltm_scenario.specs.declared.edit.EditCause.TheVariants as cause
use Rattle.ltm_scenario.specs.declared.edit.EditFault.{EditFault}
use Rattle.ltm_units.specs.Texts.{number_piece}
use Rattle.ltm_report.specs.Pieces.{newline}
use Rattle.ltm_report.specs.Causes.{diagram_words}

-- why an edit is refused; of a fault of a diagram its own words
unfoldable pub edit_cause_words : EditCause → List ℕ
edit_cause_words cause.UnknownName = codes "UnknownName"
edit_cause_words cause.UnknownDestination = codes "UnknownDestination"
edit_cause_words cause.NoOrigin = codes "NoOrigin"
edit_cause_words cause.SameEnds = codes "SameEnds"
edit_cause_words cause.BadSlots = codes "BadSlots"
edit_cause_words cause.OpenSplit = codes "OpenSplit"
edit_cause_words cause.ZeroWeight = codes "ZeroWeight"
edit_cause_words cause.TooManyRows = codes "TooManyRows"
edit_cause_words (cause.Diagram fault) = diagram_words fault
edit_cause_words (cause.CellsOver count) = number_piece (codes "CellsOver ") count
edit_cause_words cause.NoMemory = codes "NoMemory"

-- which edit is refused, as `refused edit 2`
unfoldable pub refused_edit_piece : ℕ → List ℕ
refused_edit_piece place = number_piece (codes "refused edit ") place

-- a batch was refused, as `refused edit 2 UnknownName`
unfoldable pub edit_fault_line : EditFault → List ℕ
edit_fault_line fault = refused_edit_piece fault.place ++ codes " " ++ edit_cause_words fault.cause ++ newline
