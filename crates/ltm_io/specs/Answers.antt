-- What a reader of lines answers.
use Rattle.std.specs.Prelude.{ℕ, ◌≡◌, nat_lt, if◌then◌else◌, List, [], ◌∷◌, length, Option, Some, None}
use Rattle.ltm_io.specs.Source.{prepended}
use Rattle.ltm_io.specs.Script.{lines_of, whole_lines, after_line}
use Rattle.ltm_io.specs.declared.lines.Line.{Line}
use Rattle.ltm_io.specs.declared.lines.Line.TheVariants.{Text, End, TooLong, ReadFault}

-- the answer to the lines that are left, where no read fails
abbrev pub answer_to : ℕ → List (List ℕ) → Line
answer_to max [] = End
answer_to max (line ∷ lines) = if nat_lt max (length line) then TooLong else Text

-- the answer is that to the lines that are left, where the bytes are told
abbrev pub Answers : ℕ → Line → Option (List ℕ) → Type 0
Answers max answer None = Unit {0}
Answers max answer (Some bytes) = answer ≡ answer_to max (lines_of bytes)

-- the first line was given, and what follows it is left, where the bytes are told
abbrev pub GivesLine : Option (List ℕ) → List ℕ → Option (List ℕ) → Type 0
GivesLine None text left = left ≡ None
GivesLine (Some bytes) text left = (lines_of bytes ≡ text ∷ lines_of (after_line bytes)) × (left ≡ Some (after_line bytes))

-- this much of a line came, and the rest of what was coming is left in the source
abbrev pub CutsLine : Option (List ℕ) → List ℕ → Option (List ℕ) → Type 0
CutsLine coming text left = (coming ≡ prepended text left) × (whole_lines text ≡ [])

-- the answer that is kept after an answer
abbrev pub kept_after : Line → Option Line
kept_after Text = None
kept_after End = None
kept_after TooLong = Some TooLong
kept_after ReadFault = Some ReadFault
