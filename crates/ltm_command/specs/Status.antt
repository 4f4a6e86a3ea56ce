-- The exit statuses.
use Rattle.std.specs.Prelude.{ℕ}
use Rattle.ltm_command.specs.declared.status.Status.{Status}
use Rattle.ltm_command.specs.declared.status.Status.TheVariants as status

-- the exit status of the process
abbrev pub number_of : Status → ℕ
number_of status.Ok = 0
number_of status.Usage = 2
number_of status.FolderFault = 3
number_of status.ReadFault = 4
number_of status.WriteFault = 5
number_of status.BadCase = 6
number_of status.TooLong = 7
number_of status.TooManyCommands = 8
number_of status.NoMemory = 9
number_of status.BadCurves = 11
number_of status.NotLoading = 12
number_of status.BadScript = 13
number_of status.NoHistory = 14
