-- The lines of one link: what entered and what left it.
use Rattle.std.specs.Prelude.{ℕ, List, ◌++◌, codes}
use Rattle.ltm_units.specs.Texts.{amount_piece}
use Rattle.ltm_report.specs.Pieces.{version_piece, newline}

-- the link's name, as `link a`
unfoldable pub name_piece : List ℕ → List ℕ
name_piece name = codes "link " ++ name

-- what entered and left, as ` in 1.000 out 0.500`
unfoldable pub through_piece : ℕ → ℕ → List ℕ
through_piece entered gone = amount_piece (codes " in ") entered ++ amount_piece (codes " out ") gone

-- the link of a loading on its own, as `link a in 1.000 out 0.500`
unfoldable pub load_link_line : List ℕ → ℕ → ℕ → List ℕ
load_link_line name entered gone = name_piece name ++ through_piece entered gone ++ newline

-- the link of a version, as `version 3 link a in 1.000 out 0.500`
unfoldable pub link_line : ℕ → List ℕ → ℕ → ℕ → List ℕ
link_line version name entered gone = version_piece version ++ codes " " ++ load_link_line name entered gone
