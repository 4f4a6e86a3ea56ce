-- What a reader of lines holds.
use Rattle.std.specs.Prelude.{ℕ, List, Option}
use Rattle.ltm_io.specs.Source.{prepended}
use Rattle.ltm_io.specs.declared.lines.Line.{Line}
use Rattle.ltm_io.specs.declared.lines.Lines.{Lines}

-- the most bytes of a line
abbrev pub max_of : Lines → ℕ
max_of lines = lines.max

-- the bytes that it has taken and not given
abbrev pub taken_by : Lines → List ℕ
taken_by lines = lines.ahead

-- the line that it gave last
abbrev pub text_of : Lines → List ℕ
text_of lines = lines.line.items

-- the answer that it keeps
abbrev pub kept_by : Lines → Option Line
kept_by lines = lines.kept

-- the bytes of which it gives the lines: those that it has taken, and then those that are left in its source
abbrev pub coming : Lines → Option (List ℕ) → Option (List ℕ)
coming lines left = prepended (taken_by lines) left
