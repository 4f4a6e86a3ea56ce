-- What a folder gives of the files of a case.
use Rattle.std.specs.Prelude.{ℕ, Bool, nat_le, if◌then◌else◌, List, length, Option, Some, None, option_and_then, Result, Ok, Err}
use Rattle.ltm_io.specs.declared.doc.Doc.{Doc}
use Rattle.ltm_io.specs.declared.doc.Doc.TheVariants as doc
use Rattle.ltm_io.specs.Folder.{Files}
use Rattle.ltm_scenario.specs.Build.{◌>>=◌}
use Rattle.ltm_casefile.specs.declared.faults.CaseFault.{CaseFault}
use Rattle.ltm_casefile.specs.declared.faults.CaseFault.TheVariants.{Folder, TooLong}
use Rattle.ltm_casefile.specs.declared.faults.File.{File}
use Rattle.ltm_casefile.specs.declared.faults.File.TheVariants as file
use Rattle.ltm_units.specs.Bounds.{longest_file}

-- the file of a folder
abbrev pub doc_of : File → Option Doc
doc_of file.Setup = Some doc.Setup
doc_of file.Links = Some doc.Links
doc_of file.Demand = Some doc.Demand
doc_of file.Splits = Some doc.Splits
doc_of file.Signals = Some doc.Signals
doc_of file.Limits = Some doc.Limits
doc_of file.Profile = Some doc.Profile
doc_of file.Whole = None

-- the most bytes of a file of demand or of splits where a case asks for more rows than one with history may have
abbrev pub longest_large_file : ℕ
longest_large_file = 268435456

-- the bytes of a file that is there and has at most so many of them
abbrev pub sized : ℕ → File → Option (List ℕ) → Result (List ℕ) CaseFault
sized most f None = Err (Folder f)
sized most f (Some bytes) = if nat_le (length bytes) most then Ok bytes else Err (TooLong f)

-- the same of a file that is one of the folder's
abbrev pub text_within : ℕ → Files → File → Result (List ℕ) CaseFault
text_within most files f = sized most f (option_and_then files (doc_of f))

-- of at most 16,777,216 bytes
abbrev pub text_of : Files → File → Result (List ℕ) CaseFault
text_of = text_within longest_file

-- the same of a file, where it is asked for
abbrev pub text_if : Bool → Files → File → Result (Option (List ℕ)) CaseFault
text_if asked files f = if asked then (text_of files f >>= λ bytes. Ok (Some bytes)) else Ok None
