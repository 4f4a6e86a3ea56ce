-- The lines of a script.
use Rattle.std.specs.Prelude.{ℕ, ◌==◌, if◌then◌else◌, List, [], ◌∷◌}

-- a byte before the first of these lines
abbrev pub before_lines : ℕ → List (List ℕ) → List (List ℕ)
before_lines byte [] = (byte ∷ []) ∷ []
before_lines byte (line ∷ lines) = (byte ∷ line) ∷ lines

-- a script is cut into lines at its newlines; a last piece that is not empty is a line
abbrev pub lines_of : List ℕ → List (List ℕ)
lines_of [] = []
lines_of (byte ∷ bytes) = if byte == 10 then [] ∷ lines_of bytes else before_lines byte (lines_of bytes)

-- a byte before the first of these lines, where there is one
abbrev pub before_first : ℕ → List (List ℕ) → List (List ℕ)
before_first byte [] = []
before_first byte (line ∷ lines) = (byte ∷ line) ∷ lines

-- the lines that came whole: those that a newline ends
abbrev pub whole_lines : List ℕ → List (List ℕ)
whole_lines [] = []
whole_lines (byte ∷ bytes) = if byte == 10 then [] ∷ whole_lines bytes else before_first byte (whole_lines bytes)

-- a script without its first line
abbrev pub after_line : List ℕ → List ℕ
after_line [] = []
after_line (byte ∷ bytes) = if byte == 10 then bytes else after_line bytes
