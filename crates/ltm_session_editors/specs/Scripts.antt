-- The batches of edits that the lines of files are.
use Rattle.std.specs.Prelude.{ℕ, if◌then◌else◌, List, Result, Ok, Err}
use Rattle.std.specs.List.{list_any}
use Rattle.ltm_io.specs.Folder.{Files}
use Rattle.ltm_io.specs.Script.{lines_of}
use Rattle.ltm_scenario.specs.declared.edit.Edit.{Edit}
use Rattle.ltm_script.specs.declared.command.Command.{Command}
use Rattle.ltm_script.specs.declared.command.Command.TheVariants as command
use Rattle.ltm_script.specs.declared.command.CommandFault.{CommandFault}
use Rattle.ltm_script.specs.declared.command.CommandFault.TheVariants as fault
use Rattle.ltm_script.specs.Line.{reading}
use Rattle.ltm_session_editors.specs.declared.fault.LineCause.{LineCause}
use Rattle.ltm_session_editors.specs.declared.fault.LineCause.TheVariants.{NotJson, NotCommand, NotEdit}
use Rattle.ltm_session_editors.specs.declared.fault.EditsFault.{EditsFault}
use Rattle.ltm_session_editors.specs.declared.fault.EditsFault.TheVariants.{TooMany, BadLine}
use Rattle.ltm_session_editors.specs.Each.{each_from}
use Rattle.ltm_session_editors.specs.Files.{texts_of, has_many}

-- what a line was read as is a batch of edits, or no edit, or no command; no line is read as want of memory
abbrev pub batch_in : Result Command CommandFault → Result (List Edit) LineCause
batch_in (Ok (command.Edit edits)) = Ok edits
batch_in (Ok (command.Ask question)) = Err NotEdit
batch_in (Ok command.Settle) = Err NotEdit
batch_in (Err fault.NotJson) = Err NotJson
batch_in (Err (fault.NotCommand place)) = Err (NotCommand place)
batch_in (Err fault.NoMemory) = Err NotJson

-- a batch, or which line is none, and why
abbrev pub at_line : ℕ → ℕ → Result (List Edit) LineCause → Result (List Edit) EditsFault
at_line editor line (Ok edits) = Ok edits
at_line editor line (Err cause) = Err (BadLine editor line cause)

unfoldable pub batch_at : ℕ → ℕ → List ℕ → Result (List Edit) EditsFault
batch_at editor line bytes = at_line editor line (batch_in (reading bytes))

-- the script of an editor: the batches that the lines of a file are, in order; or the first line that is none
unfoldable pub script_of : ℕ → List ℕ → Result (List (List Edit)) EditsFault
script_of editor bytes = each_from (batch_at editor) 1 (lines_of bytes)

-- the scripts of all editors, where no file has too many lines
abbrev pub scripts_in : List (List ℕ) → Result (List (List (List Edit))) EditsFault
scripts_in texts = if list_any has_many texts then Err TooMany else each_from script_of 1 texts

abbrev pub read_as : Result (List (List ℕ)) EditsFault → Result (List (List (List Edit))) EditsFault
read_as (Ok texts) = scripts_in texts
read_as (Err fault) = Err fault

-- the scripts that the files of so many editors are; or what is wrong first
unfoldable pub scripts_of : Files → ℕ → Result (List (List (List Edit))) EditsFault
scripts_of files editors = read_as (texts_of files editors)
