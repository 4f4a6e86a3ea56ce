-- The lines that tell of all links, of all nodes or of all boundaries at once.
use Rattle.std.specs.Prelude.{ℕ, List, ◌++◌, codes}
use Rattle.ltm_units.specs.Texts.{number_piece, amount_piece, texts_below}
use Rattle.ltm_report.specs.Pieces.{version_piece, newline}
use Rattle.ltm_report.specs.Links.{name_piece}
use Rattle.ltm_report.specs.Times.{slot_piece}
use Rattle.ltm_report.specs.Delays.{node_piece, seconds_piece, spent_piece, waited_piece}

-- an amount in thousandths of a vehicle, as ` 3400`
unfoldable pub count_piece : ℕ → List ℕ
count_piece count = number_piece (codes " ") count

-- so many amounts in order, as ` 2000 400`
abbrev pub counts : ℕ → (ℕ → ℕ) → List ℕ
counts many count = texts_below many (λ k. count_piece (count k))

-- words and so many amounts in order, as ` in 2000 400`
unfoldable pub row : List ℕ → ℕ → (ℕ → ℕ) → List ℕ
row words many count = words ++ counts many count

-- all links and all nodes at a boundary, as `version 0 slot 4 in 2000 400 out 400 0 queue 600 0 waiting 800 0 0`
unfoldable pub state_line : ℕ → ℕ → ℕ → ℕ → (ℕ → ℕ) → (ℕ → ℕ) → (ℕ → ℕ) → (ℕ → ℕ) → List ℕ
state_line version boundary links nodes entered gone queued waiting =
    version_piece version
    ++ slot_piece boundary
    ++ row (codes " in") links entered
    ++ row (codes " out") links gone
    ++ row (codes " queue") links queued
    ++ row (codes " waiting") nodes waiting
    ++ newline

-- a link at so many boundaries, as `version 0 link a in 0 500 1000 out 0 0 0`
unfoldable pub curve_line : ℕ → List ℕ → ℕ → (ℕ → ℕ) → (ℕ → ℕ) → List ℕ
curve_line version name boundaries entered gone =
    version_piece version ++ codes " " ++ name_piece name ++ row (codes " in") boundaries entered ++ row (codes " out") boundaries gone ++ newline

-- the origin of a node at so many boundaries, as `version 0 node n1 produced 0 700 1400 left 0 500 1000`
unfoldable pub departures_line : ℕ → List ℕ → ℕ → (ℕ → ℕ) → (ℕ → ℕ) → List ℕ
departures_line version name boundaries produced gone =
    version_piece version ++ codes " " ++ node_piece name ++ row (codes " produced") boundaries produced ++ row (codes " left") boundaries gone ++ newline

-- ---- delays
-- the greatest number and the first boundary that has it, as ` 1.800 8`
unfoldable pub peak_numbers : ℕ → ℕ → List ℕ
peak_numbers most at = amount_piece (codes " ") most ++ number_piece (codes " ") at

-- what is spent and queued on a link, as ` 30.500000 20.700000 1.800 8`
unfoldable pub link_numbers : ℕ → ℕ → ℕ → ℕ → List ℕ
link_numbers spent queued most at = seconds_piece (codes " ") spent ++ seconds_piece (codes " ") queued ++ peak_numbers most at

-- what is waited at an origin, as ` 29.000000 3.200 10`
unfoldable pub node_numbers : ℕ → ℕ → ℕ → List ℕ
node_numbers waited most at = seconds_piece (codes " ") waited ++ peak_numbers most at

-- what all spend, queue and wait, and the numbers of so many links and so many nodes in order
unfoldable pub delays_line : ℕ → ℕ → ℕ → ℕ → ℕ → (ℕ → List ℕ) → ℕ → (ℕ → List ℕ) → List ℕ
delays_line version spent queued waited links of_link nodes of_node =
    version_piece version
    ++ spent_piece spent queued
    ++ waited_piece waited
    ++ codes " links"
    ++ texts_below links of_link
    ++ codes " nodes"
    ++ texts_below nodes of_node
    ++ newline
