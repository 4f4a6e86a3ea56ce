-- The lines of a made case: its size, and the work of its repair.
use Rattle.std.specs.Prelude.{ℕ, List, ◌++◌, codes}
use Rattle.ltm_units.specs.Texts.{number_piece}
use Rattle.ltm_report.specs.Pieces.{newline}

unfoldable pub nodes_piece : ℕ → List ℕ
nodes_piece nodes = number_piece (codes "case nodes ") nodes

unfoldable pub links_piece : ℕ → List ℕ
links_piece links = number_piece (codes " links ") links

unfoldable pub pairs_piece : ℕ → List ℕ
pairs_piece pairs = number_piece (codes " pairs ") pairs

-- how large a case is, as `case nodes 400 links 1520 pairs 24000`
unfoldable pub size_line : ℕ → ℕ → ℕ → List ℕ
size_line nodes links pairs = nodes_piece nodes ++ links_piece links ++ pairs_piece pairs ++ newline

unfoldable pub first_recomputed_piece : ℕ → List ℕ
first_recomputed_piece recomputed = number_piece (codes "recomputed ") recomputed

unfoldable pub solved_piece : ℕ → List ℕ
solved_piece solved = number_piece (codes " solved ") solved

unfoldable pub spent_piece : ℕ → List ℕ
spent_piece spent = number_piece (codes " spent ") spent

-- how many pairs were computed anew, how many solves that took, and the time that all vehicles spend, in thousandths of a
-- vehicle times milliseconds, as `recomputed 232 solved 232 spent 3969740000`
unfoldable pub work_line : ℕ → ℕ → ℕ → List ℕ
work_line recomputed solved spent = first_recomputed_piece recomputed ++ solved_piece solved ++ spent_piece spent ++ newline
