-- The lines that tell what was done: a batch accepted, a settle.
use Rattle.std.specs.Prelude.{ℕ, List, ◌++◌, codes}
use Rattle.ltm_units.specs.Texts.{number_piece}
use Rattle.ltm_report.specs.Pieces.{newline}

unfoldable pub accepted_piece : ℕ → List ℕ
accepted_piece version = number_piece (codes "accepted version ") version

-- a batch was accepted, as `accepted version 3`
unfoldable pub accepted_line : ℕ → List ℕ
accepted_line version = accepted_piece version ++ newline

unfoldable pub settled_piece : ℕ → List ℕ
settled_piece version = number_piece (codes "settled version ") version

unfoldable pub recomputed_piece : ℕ → List ℕ
recomputed_piece count = number_piece (codes " recomputed ") count

-- all batches were settled, and so many pairs computed anew, as `settled version 3 recomputed 12`
unfoldable pub settled_line : ℕ → ℕ → List ℕ
settled_line version count = settled_piece version ++ recomputed_piece count ++ newline

-- room that such a line needs at most, in bytes
abbrev pub answer_room : ℕ
answer_room = 128
