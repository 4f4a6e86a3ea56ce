-- The lines that a check writes.
use Rattle.std.specs.Prelude.{ℕ, List, ◌++◌, codes}
use Rattle.ltm_units.specs.Texts.{number_piece}
use Rattle.ltm_check.specs.declared.faults.CurvesCause.{CurvesCause}
use Rattle.ltm_check.specs.declared.faults.CurvesCause.TheVariants.{Header, Width, Field, Rows}

-- the curves are the loading
unfoldable pub yes_line : List ℕ
yes_line = codes "loading yes\n"

-- something is counted at the start, or leaves the origin of a node without out-links
unfoldable pub no_start_line : List ℕ
no_start_line = codes "loading no start\n"

-- the counts of a node at the end of a slot are not its node step, as `loading no node n2 slot 2`
unfoldable pub no_step_line : List ℕ → ℕ → List ℕ
no_step_line node slot = codes "loading no node " ++ node ++ number_piece (codes " slot ") slot ++ codes "\n"

unfoldable pub cause_words : CurvesCause → List ℕ
cause_words Header = codes "Header"
cause_words Width = codes "Width"
cause_words (Field place) = number_piece (codes "Field ") place
cause_words Rows = codes "Rows"

-- the file is no curve file of the case, as `bad curves row 6 Rows`
unfoldable pub bad_curves_line : ℕ → CurvesCause → List ℕ
bad_curves_line row cause = number_piece (codes "bad curves row ") row ++ codes " " ++ cause_words cause ++ codes "\n"

-- the file has more bytes than are read
unfoldable pub long_curves_line : List ℕ
long_curves_line = codes "too long curves\n"
