-- The lines of gaps.
use Rattle.std.specs.Prelude.{ℕ, ◌-◌, nat_lt, if◌then◌else◌, List, ◌++◌, codes}
use Rattle.ltm_units.specs.Texts.{amount_piece}
use Rattle.ltm_report.specs.Pieces.{version_piece, newline}
use Rattle.ltm_report.specs.Delays.{seconds_piece}

-- what is spent less the least, with `-` in front where the least is more, as ` gap -0.375000`
unfoldable pub gap_piece : ℕ → ℕ → List ℕ
gap_piece spent least = if nat_lt spent least then seconds_piece (codes " gap -") (least - spent) else seconds_piece (codes " gap ") (spent - least)

-- how many are late, as ` late 4.900`
unfoldable pub late_piece : ℕ → List ℕ
late_piece late = amount_piece (codes " late ") late

-- as ` spent 64.900000 least 64.900000 gap 0.000000 late 4.600`
unfoldable pub gap_pieces : ℕ → ℕ → ℕ → List ℕ
gap_pieces spent least late = seconds_piece (codes " spent ") spent ++ seconds_piece (codes " least ") least ++ gap_piece spent least ++ late_piece late

-- of all who travel, as `version 0 spent 64.900000 least 64.900000 gap 0.000000 late 4.600`
unfoldable pub gap_line : ℕ → ℕ → ℕ → ℕ → List ℕ
gap_line version spent least late = version_piece version ++ gap_pieces spent least late ++ newline

-- of those who travel to a destination, as `to n3 spent 64.900000 least 64.900000 gap 0.000000 late 4.600`
unfoldable pub gap_to_line : List ℕ → ℕ → ℕ → ℕ → List ℕ
gap_to_line name spent least late = codes "to " ++ name ++ gap_pieces spent least late ++ newline
