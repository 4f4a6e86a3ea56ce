-- The files of edits beside a case, one for each editor.
use Rattle.std.specs.Prelude.{ℕ, Bool, nat_lt, if◌then◌else◌, List, [], ◌∷◌, take, length, Option, Some, None, Result, Ok, Err}
use Rattle.ltm_io.specs.declared.doc.Doc.{Doc}
use Rattle.ltm_io.specs.declared.doc.Doc.TheVariants.{Edits1, Edits2, Edits3, Edits4, Edits5, Edits6, Edits7, Edits8}
use Rattle.ltm_io.specs.Folder.{Files}
use Rattle.ltm_io.specs.Script.{lines_of}
use Rattle.ltm_session_editors.specs.declared.fault.EditsFault.{EditsFault}
use Rattle.ltm_session_editors.specs.declared.fault.EditsFault.TheVariants.{Missing, TooLong}
use Rattle.ltm_session_editors.specs.Each.{each_from}

-- the files of eight editors, and those of the first so many
abbrev pub all_docs : List Doc
all_docs = Edits1 ∷ Edits2 ∷ Edits3 ∷ Edits4 ∷ Edits5 ∷ Edits6 ∷ Edits7 ∷ Edits8 ∷ []

abbrev pub docs_of : ℕ → List Doc
docs_of editors = take editors all_docs

-- the most bytes of a file
abbrev pub most_bytes : ℕ
most_bytes = 16777216

-- the bytes of an editor's file; or that it is not there, or has too many
abbrev pub sized : ℕ → Option (List ℕ) → Result (List ℕ) EditsFault
sized editor None = Err (Missing editor)
sized editor (Some bytes) = if nat_lt most_bytes (length bytes) then Err (TooLong editor) else Ok bytes

abbrev pub text_at : Files → ℕ → Doc → Result (List ℕ) EditsFault
text_at files editor d = sized editor (files d)

-- the bytes of the files of so many editors, or the first that is not there or has too many
abbrev pub texts_of : Files → ℕ → Result (List (List ℕ)) EditsFault
texts_of files editors = each_from (text_at files) 1 (docs_of editors)

-- a file has more lines than are read
abbrev pub most_lines : ℕ
most_lines = 10000

abbrev pub has_many : List ℕ → Bool
has_many bytes = nat_lt most_lines (length (lines_of bytes))
