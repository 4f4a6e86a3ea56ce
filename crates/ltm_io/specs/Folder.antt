-- What a folder tells.
use Rattle.std.specs.Prelude.{ℕ, List, Option}
use Rattle.ltm_io.specs.declared.doc.Doc.{Doc}

-- for each file its bytes, or that there is none
abbrev pub Files : Type 0
Files = Doc → Option (List ℕ)
