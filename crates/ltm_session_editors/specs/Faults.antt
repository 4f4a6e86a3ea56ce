-- What is behind a fault of files of edits.
use Rattle.std.specs.Prelude.{◌≡◌, Result, Err}
use Rattle.ltm_session_editors.specs.declared.fault.EditsFault.{EditsFault}
use Rattle.ltm_session_editors.specs.declared.fault.EditsFault.TheVariants.{Missing, TooLong, TooMany, BadLine, NoMemory}

-- a fault that lies in the files is the one that is said of them; that a folder did not give a file, or memory was not
-- found, does not lie in them
abbrev pub Agrees : {A : Type 0} → Result A EditsFault → EditsFault → Type 0
Agrees said (Missing editor) = Unit {0}
Agrees said (TooLong editor) = said ≡ Err (TooLong editor)
Agrees said TooMany = said ≡ Err TooMany
Agrees said (BadLine editor line cause) = said ≡ Err (BadLine editor line cause)
Agrees said NoMemory = Unit {0}

-- where a file was not given, this holds
abbrev pub IfMissing : Type 0 → EditsFault → Type 0
IfMissing holds (Missing editor) = holds
IfMissing holds (TooLong editor) = Unit {0}
IfMissing holds TooMany = Unit {0}
IfMissing holds (BadLine editor line cause) = Unit {0}
IfMissing holds NoMemory = Unit {0}
