-- What is told in one line of all links and all nodes at boundaries that lie so many slots apart, and at the last.
use Rattle.std.specs.Prelude.{ℕ, List, ◌++◌, codes}
use Rattle.ltm_units.specs.Texts.{number_piece, texts_below}
use Rattle.ltm_curve.specs.Counts.{Counts}
use Rattle.ltm_loading.specs.Setting.{Setting}
use Rattle.ltm_loading.specs.Totals.{entered_link, left_link}
use Rattle.ltm_flows.specs.Origins.{departed_from}
use Rattle.ltm_report.specs.Pieces.{version_piece, newline}
use Rattle.ltm_report.specs.Rows.{counts}
use Rattle.ltm_report.specs.Sampled.{told_boundaries, told_at}

-- how many slots lie between boundaries that are told, as ` every 10`
unfoldable pub every_piece : ℕ → List ℕ
every_piece every = number_piece (codes " every ") every

-- words, and so many amounts of each of so many links or nodes in order, as ` in 500 1000 0 400` of two links at two boundaries
unfoldable pub rows : List ℕ → ℕ → ℕ → (ℕ → ℕ → ℕ) → List ℕ
rows words things many count = words ++ texts_below things (λ thing. counts many (count thing))

-- all links and all nodes at so many boundaries, as `version 0 every 2 in 500 1000 0 400 out 0 400 0 0 departed 500 1000 0 0 0 0`
unfoldable pub samples_line : ℕ → ℕ → ℕ → ℕ → ℕ → (ℕ → ℕ → ℕ) → (ℕ → ℕ → ℕ) → (ℕ → ℕ → ℕ) → List ℕ
samples_line version every links nodes many entered gone departed =
    version_piece version
    ++ every_piece every
    ++ rows (codes " in") links many entered
    ++ rows (codes " out") links many gone
    ++ rows (codes " departed") nodes many departed
    ++ newline

-- what has entered and left each link, and what has left each origin, by each boundary that is told
unfoldable pub samples_report : ℕ → ℕ → Setting → Counts → List ℕ
samples_report every version s c =
    samples_line version every s.links s.nodes (told_boundaries every s.slots)
    (λ link place. entered_link s c link (told_at every s.slots place))
    (λ link place. left_link s c link (told_at every s.slots place))
    (λ node place. departed_from s c node (told_at every s.slots place))
