-- The command that a line is, or why it is none.
use Rattle.std.specs.Prelude.{ℕ, ◌≡◌, ◌≢◌, List, Option, Some, None, Result, Err, if◌then◌else◌}
use Rattle.std.specs.Str.{is_utf8}
use Rattle.serde_json.specs.Data.{Data}
use Rattle.serde_json.specs.Read.{read}
use Rattle.ltm_script.specs.declared.command.Command.{Command}
use Rattle.ltm_script.specs.declared.command.CommandFault.{CommandFault}
use Rattle.ltm_script.specs.declared.command.CommandFault.TheVariants.{NotJson, NoMemory}
use Rattle.ltm_script.specs.Commands.{command_of}

-- the value that a line is, as the crate reads it
unfoldable pub value_of : List ℕ → Option Data
value_of line = if is_utf8 line then read line else None

abbrev pub command_in : Option Data → Result Command CommandFault
command_in None = Err NotJson
command_in (Some d) = command_of d

-- the reading of a line
abbrev pub reading : List ℕ → Result Command CommandFault
reading line = command_in (value_of line)

-- a line is read as a command or as a fault of its own, never as want of memory
abbrev pub EveryLineIsRead : Type 0
EveryLineIsRead = (line : List ℕ) → reading line ≢ Err NoMemory
