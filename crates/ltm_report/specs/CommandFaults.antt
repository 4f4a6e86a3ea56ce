-- The line that refuses a line of a script which is no command.
use Rattle.std.specs.Prelude.{ℕ, List, ◌++◌, codes}
use Rattle.ltm_script.specs.declared.command.CommandFault.{CommandFault}
use Rattle.ltm_script.specs.declared.command.CommandFault.TheVariants as fault
use Rattle.ltm_units.specs.Texts.{number_piece}
use Rattle.ltm_report.specs.Pieces.{newline}

-- why a line is no command, as `NotCommand 2`
unfoldable pub command_fault_words : CommandFault → List ℕ
command_fault_words fault.NotJson = codes "NotJson"
command_fault_words (fault.NotCommand place) = number_piece (codes "NotCommand ") place
command_fault_words fault.NoMemory = codes "NoMemory"

-- a line is no command, as `refused command NotJson`
unfoldable pub command_fault_line : CommandFault → List ℕ
command_fault_line fault = codes "refused command " ++ command_fault_words fault ++ newline
