-- The line of a loading's totals.
use Rattle.std.specs.Prelude.{ℕ, List, ◌++◌, codes}
use Rattle.ltm_units.specs.Texts.{amount_piece}
use Rattle.ltm_report.specs.Pieces.{version_piece, newline}

-- what came and what arrived
unfoldable pub came_piece : ℕ → ℕ → List ℕ
came_piece generated arrived = amount_piece (codes " generated ") generated ++ amount_piece (codes " arrived ") arrived

-- what is still on its way
unfoldable pub stays_piece : ℕ → ℕ → List ℕ
stays_piece on_links waiting = amount_piece (codes " on_links ") on_links ++ amount_piece (codes " waiting ") waiting

-- the totals, as `version 0 generated 1.000 arrived 0.500 on_links 0.500 waiting 0.000`
unfoldable pub totals_line : ℕ → ℕ → ℕ → ℕ → ℕ → List ℕ
totals_line version generated arrived on_links waiting =
    version_piece version ++ came_piece generated arrived ++ stays_piece on_links waiting ++ newline
