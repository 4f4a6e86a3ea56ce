-- A window on curves: the counts of some groups, copied so that those of one record lie side by side.
use Rattle.std.specs.Prelude.{ℕ, ◌≡◌, ◌+◌, ◌-◌, ◌*◌, ◌<◌, ◌≤◌, List, length, slice_index}
use Rattle.ltm_curve.specs.Table.{counts_of, destinations_of, slots_of, IsIn}
use Rattle.ltm_curve.specs.declared.curves.Curves.{Curves}

-- how many boundaries there are
abbrev pub boundaries_of : Curves → ℕ
boundaries_of c = slots_of c + 1

-- the place of a count, of the groups from `first` on: the counts of one record lie side by side, boundary after boundary
abbrev pub copied_place : Curves → ℕ → ℕ → ℕ → ℕ → ℕ
copied_place c first group destination boundary = ((group - first) * destinations_of c + destination) * boundaries_of c + boundary

-- how many places so many groups have
abbrev pub copied_size : Curves → ℕ → ℕ
copied_size c groups = groups * destinations_of c * boundaries_of c

-- the most groups whose counts are copied at once
abbrev pub most_at_once : ℕ
most_at_once = 256

-- among so many counts there is a place for each of the groups from `first` on and below `end`
abbrev pub HavePlaces : Curves → ℕ → ℕ → ℕ → Type 0
HavePlaces c first end size = (g d k : ℕ) → first ≤ g → g < end → IsIn c g d k → copied_place c first g d k < size

-- a count of the curves stands at its place
abbrev pub IsCopied : Curves → ℕ → List ℕ → ℕ → ℕ → ℕ → Type 0
IsCopied c first counts g d k = slice_index counts (copied_place c first g d k) ≡ counts_of c g d k

-- what is copied stays so
pub record KeepsCopies (c : Curves) (first : ℕ) (old new : List ℕ) : Type 0 where
  pub long : length new ≡ length old
  pub same : (g d k : ℕ) → first ≤ g → IsIn c g d k → IsCopied c first old g d k → IsCopied c first new g d k

-- how many boundaries are copied at once
abbrev pub stretch : ℕ
stretch = 16

-- a boundary of the stretch that begins at `from`
pub record IsNear (from k : ℕ) : Type 0 where
  pub begun : from ≤ k
  pub below : k < from + stretch

-- the counts of the groups from `first` on and below `end`, at the boundaries below n, are copied
abbrev pub AreCopied : Curves → ℕ → ℕ → ℕ → List ℕ → Type 0
AreCopied c first end n counts = (g d k : ℕ) → first ≤ g → g < end → k < n → IsIn c g d k → IsCopied c first counts g d k

-- the same at all boundaries
abbrev pub AreAllCopied : Curves → ℕ → ℕ → List ℕ → Type 0
AreAllCopied c first end counts = AreCopied c first end (boundaries_of c) counts
