-- The lines of routes: a record of `splits.csv` for each, and its time.
use Rattle.std.specs.Prelude.{ℕ, List, [], ◌∷◌, ◌++◌, codes}
use Rattle.ltm_units.specs.Texts.{number_piece}
use Rattle.ltm_report.specs.Pieces.{newline}

-- the header of `splits.csv`
unfoldable pub splits_header_line : List ℕ
splits_header_line = codes "node,destination,from_slot,weights\n"

-- a link with weight 1, as `a=1`
unfoldable pub entry_piece : List ℕ → List ℕ
entry_piece link = link ++ codes "=1"

-- links with weight 1 behind another, each with a space before it, as ` b=1 c=1`
abbrev pub further_entries : List (List ℕ) → List ℕ
further_entries [] = []
further_entries (link ∷ links) = codes " " ++ entry_piece link ++ further_entries links

-- links with weight 1, with one space between two, as `a=1 b=1 c=1`
abbrev pub entries : List (List ℕ) → List ℕ
entries [] = []
entries (link ∷ links) = entry_piece link ++ further_entries links

-- the ends of a route and its first slot, as `n1,n2,0,`
unfoldable pub key_piece : List ℕ → List ℕ → List ℕ
key_piece node destination = node ++ codes "," ++ destination ++ codes ",0,"

-- the split row of a node that sends equal parts over these links, as `n1,n2,0,a=1 c=1`
unfoldable pub route_row_line : List ℕ → List ℕ → List (List ℕ) → List ℕ
route_row_line node destination links = key_piece node destination ++ entries links ++ newline

-- the ends of a route, as `from n1 to n2`
unfoldable pub ends_piece : List ℕ → List ℕ → List ℕ
ends_piece node destination = codes "from " ++ node ++ codes " to " ++ destination

unfoldable pub route_time_piece : ℕ → List ℕ
route_time_piece time = number_piece (codes " time ") time

-- the least time from a node to a destination in milliseconds, as `from n1 to n2 time 2000`
unfoldable pub route_time_line : List ℕ → List ℕ → ℕ → List ℕ
route_time_line node destination time = ends_piece node destination ++ route_time_piece time ++ newline
