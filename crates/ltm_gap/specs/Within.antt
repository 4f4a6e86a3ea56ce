-- The earliest arrivals over ways, found by the number of links.
use Rattle.std.specs.Prelude.{ℕ, zero, suc, ◌≡◌, ◌==◌, min, if◌then◌else◌, Option, Some, None, option_and_then}
use Rattle.ltm_search.specs.Ways.{Ways, IsEarliest}

-- the earliest arrival of one who sets out at a moment, or not at all
abbrev pub IsEarliestFrom : Ways → ℕ → Option ℕ → ℕ → Option ℕ → Type 0
IsEarliestFrom w from None to time = time ≡ None
IsEarliestFrom w from (Some start) to time = IsEarliest w from start to time

-- the earlier of two
abbrev pub earlier : Option ℕ → Option ℕ → Option ℕ
earlier None b = b
earlier (Some a) None = Some a
earlier (Some a) (Some b) = Some (min a b)

-- the earliest of those of the numbers below n
abbrev pub earliest_below : ℕ → (ℕ → Option ℕ) → Option ℕ
earliest_below zero f = None
earliest_below (suc n) f = earlier (earliest_below n f) (f n)

-- what a link gives at a node to which it leads
abbrev pub over : Ways → (ℕ → Option ℕ) → ℕ → ℕ → Option ℕ
over w arrivals node link = if w.head link == node then option_and_then (w.leaves link) (arrivals (w.tail link)) else None

-- the earliest arrival over routes of at most so many links
abbrev pub earliest_within : Ways → ℕ → Option ℕ → ℕ → ℕ → Option ℕ
earliest_within w from start zero node = if from == node then start else None
earliest_within w from start (suc n) node = earlier (earliest_within w from start n node) (earliest_below w.links (over w (earliest_within w from start n) node))
