-- The lines of queues and delays.
use Rattle.std.specs.Prelude.{ℕ, ◌+◌, ◌/◌, ◌%◌, List, [], ◌∷◌, ◌++◌, codes}
use Rattle.std.specs.Fmt.{decimal}
use Rattle.ltm_units.specs.Texts.{number_piece, amount_piece}
use Rattle.ltm_report.specs.Pieces.{version_piece, newline}
use Rattle.ltm_report.specs.Links.{name_piece, through_piece}
use Rattle.ltm_report.specs.Times.{slot_piece}

-- a time in thousandths of a vehicle times milliseconds: whole vehicle seconds, a point and six digits
unfoldable pub seconds_text : ℕ → List ℕ
seconds_text n =
    decimal (n / 1000000)
    ++ 46 ∷ (48 + n % 1000000 / 100000) ∷ (48 + n % 100000 / 10000) ∷ (48 + n % 10000 / 1000) ∷ (48 + n % 1000 / 100) ∷ (48 + n % 100 / 10) ∷ (48 + n % 10) ∷ []

-- words and a time
unfoldable pub seconds_piece : List ℕ → ℕ → List ℕ
seconds_piece words time = words ++ seconds_text time

-- the time spent, and how much of it was queued, as ` spent 30.500000 queued 20.700000`
unfoldable pub spent_piece : ℕ → ℕ → List ℕ
spent_piece spent queued = seconds_piece (codes " spent ") spent ++ seconds_piece (codes " queued ") queued

-- the time waited, as ` waited 29.000000`
unfoldable pub waited_piece : ℕ → List ℕ
waited_piece waited = seconds_piece (codes " waited ") waited

-- the greatest number and the first boundary that has it, as ` most 1.800 at 8`
unfoldable pub peak_piece : ℕ → ℕ → List ℕ
peak_piece most at = amount_piece (codes " most ") most ++ number_piece (codes " at ") at

-- how many stand in a queue, as ` queue 1.800`
unfoldable pub queue_piece : ℕ → List ℕ
queue_piece queue = amount_piece (codes " queue ") queue

-- what all spend, queue and wait, as `version 0 spent 64.900000 queued 20.700000 waited 29.000000`
unfoldable pub delay_line : ℕ → ℕ → ℕ → ℕ → List ℕ
delay_line version spent queued waited = version_piece version ++ spent_piece spent queued ++ waited_piece waited ++ newline

-- what is spent and queued on a link, as `link a spent 30.500000 queued 20.700000 most 1.800 at 8`
unfoldable pub link_delay_line : List ℕ → ℕ → ℕ → ℕ → ℕ → List ℕ
link_delay_line name spent queued most at = name_piece name ++ spent_piece spent queued ++ peak_piece most at ++ newline

-- the queue of a link at a boundary, as `version 3 link a slot 8 in 3.400 out 1.200 queue 1.800`
unfoldable pub queue_line : ℕ → List ℕ → ℕ → ℕ → ℕ → ℕ → List ℕ
queue_line version name boundary entered gone queue =
    version_piece version ++ codes " " ++ name_piece name ++ slot_piece boundary ++ through_piece entered gone ++ queue_piece queue ++ newline

-- the node's name, as `node n1`
unfoldable pub node_piece : List ℕ → List ℕ
node_piece name = codes "node " ++ name

-- what is waited at an origin, as `node n1 waited 29.000000 most 3.200 at 10`
unfoldable pub node_delay_line : List ℕ → ℕ → ℕ → ℕ → List ℕ
node_delay_line name waited most at = node_piece name ++ waited_piece waited ++ peak_piece most at ++ newline

-- what an origin has produced, what has left it and who waits, as ` produced 5.600 left 3.400 waiting 2.200`
unfoldable pub origin_piece : ℕ → ℕ → ℕ → List ℕ
origin_piece produced gone waiting =
    amount_piece (codes " produced ") produced ++ amount_piece (codes " left ") gone ++ amount_piece (codes " waiting ") waiting

-- the origin of a node at a boundary, as `version 3 node n1 slot 8 produced 5.600 left 3.400 waiting 2.200`
unfoldable pub origin_line : ℕ → List ℕ → ℕ → ℕ → ℕ → ℕ → List ℕ
origin_line version name boundary produced gone waiting =
    version_piece version ++ codes " " ++ node_piece name ++ slot_piece boundary ++ origin_piece produced gone waiting ++ newline
