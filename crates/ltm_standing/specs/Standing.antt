-- What stands on a link, number by number.
use Rattle.std.specs.Prelude.{◌≡◌, ℕ, ◌+◌, ◌-◌, ◌*◌, ◌%◌, ◌^◌, ◌<◌, ◌≤◌, List, [], ◌∷◌, ◌++◌, drop, length, slice_index, slice_range}
use Rattle.ltm_curve.specs.Counts.{total}
use Rattle.ltm_standing.specs.declared.standing.Standing.{Standing}

-- for how many destinations
abbrev pub width_of : Standing → ℕ
width_of s = length s.rest.items

-- the rows: those from `dead` on are kept, and those from `next` on are behind the position
abbrev pub end_of : Standing → ℕ
end_of s = length s.totals.items

-- what a row has of a destination, and of all
abbrev pub row_at : Standing → ℕ → ℕ → ℕ
row_at s row place = slice_index s.entries.items (row * width_of s + place)

abbrev pub total_at : Standing → ℕ → ℕ
total_at s row = slice_index s.totals.items row

-- a row as a list
abbrev pub row_of : Standing → ℕ → List ℕ
row_of s row = slice_range s.entries.items (row * width_of s) (row * width_of s + width_of s)

-- a number of 32 bits, which may stand for one below 0, is the difference of two counts
abbrev pub IsDifference : ℕ → ℕ → ℕ → Type 0
IsDifference rest more less = (rest + less) % 2 ^ 32 ≡ more % 2 ^ 32

-- of some rows of counts, what entered and what left by place and boundary: what stands at boundary t where all rows up to
-- boundary k are taken in. Each row is all that entered in one slot, and in the slots without a row nothing entered;
-- `begins` tells the boundary at which the slot of a row begins, and behind the last row k. Only rows that have left whole
-- are freed.
pub record StandsAt (width : ℕ) (up down : ℕ → ℕ → ℕ) (k t : ℕ) (s : Standing) : Type 0 where
  pub begins : ℕ → ℕ
  pub wide : width_of s ≡ width
  pub end : begins (end_of s) ≡ k
  pub base : s.base ≡ total width up (begins s.next)
  pub rest : (i : ℕ) → i < width → IsDifference (slice_index s.rest.items i) (up i (begins s.next)) (down i t)
  pub low : s.low ≡ total width up (begins s.dead)
  pub freed : s.low ≤ total width down t
  pub later : (j : ℕ) → s.dead ≤ j → j < end_of s → begins j < begins (j + 1)
  pub rows : (j i : ℕ) → s.dead ≤ j → j < end_of s → i < width → up i (begins j + 1) ≡ up i (begins j) + row_at s j i
  pub others : (j i : ℕ) → s.dead ≤ j → j < end_of s → i < width → up i (begins (j + 1)) ≡ up i (begins j + 1)

-- what entered in slot k, by place and in all; where nothing entered, no place is told
pub record CameAt (width : ℕ) (up : ℕ → ℕ → ℕ) (k came : ℕ) (mail : ℕ → ℕ) : Type 0 where
  pub rises : (i : ℕ) → i < width → up i k ≤ up i (k + 1)
  pub all : total width up (k + 1) ≡ total width up k + came
  pub each : 0 < came → (i : ℕ) → i < width → up i (k + 1) ≡ up i k + mail i

-- what stood as it should still does
abbrev pub Keeps : ℕ → ℕ → Standing → Standing → Type 0
Keeps k t old new = (width : ℕ) (up down : ℕ → ℕ → ℕ) → StandsAt width up down k t old → StandsAt width up down k t new

-- the same rows
pub record SameRows (old new : Standing) : Type 0 where
  pub wide : width_of new ≡ width_of old
  pub totals : new.totals.items ≡ old.totals.items
  pub entries : new.entries.items ≡ old.entries.items

-- the position is behind one row more
pub record Passes (old new : Standing) : Type 0 where
  pub rows : SameRows old new
  pub next : new.next ≡ old.next + 1
  pub base : new.base ≡ old.base + total_at old old.next
  pub rest : (i : ℕ) → i < width_of old → slice_index new.rest.items i ≡ (slice_index old.rest.items i + row_at old old.next i) % 2 ^ 32
  pub low : new.low ≡ old.low
  pub dead : new.dead ≡ old.dead

-- the position is before one row more
pub record GoesBack (old new : Standing) : Type 0 where
  pub rows : SameRows old new
  pub next : new.next + 1 ≡ old.next
  pub base : new.base ≡ old.base - total_at old new.next
  pub rest : (i : ℕ) → i < width_of old → slice_index new.rest.items i ≡ (slice_index old.rest.items i + (2 ^ 32 - row_at old new.next i)) % 2 ^ 32
  pub small : (i : ℕ) → i < width_of old → row_at old new.next i < 2 ^ 32
  pub low : new.low ≡ old.low
  pub dead : new.dead ≡ old.dead

-- one row more is freed
pub record Frees (old new : Standing) : Type 0 where
  pub rows : SameRows old new
  pub next : new.next ≡ old.next
  pub base : new.base ≡ old.base
  pub rest : new.rest.items ≡ old.rest.items
  pub low : new.low ≡ old.low + total_at old old.dead
  pub dead : new.dead ≡ old.dead + 1

-- the position is that of so many units: no row behind it is within them, and none before it that is kept ends beyond them
pub record IsReached (goal : ℕ) (s : Standing) : Type 0 where
  pub behind : s.next < end_of s → goal < s.base + total_at s s.next
  pub before : s.dead < s.next → s.base ≤ goal

-- a row stands behind the others
pub record Pushes (old new : Standing) (came : ℕ) (mail : List ℕ) : Type 0 where
  pub rest : new.rest.items ≡ old.rest.items
  pub base : new.base ≡ old.base
  pub low : new.low ≡ old.low
  pub dead : new.dead ≡ old.dead
  pub next : new.next ≡ old.next
  pub totals : new.totals.items ≡ old.totals.items ++ came ∷ []
  pub entries : new.entries.items ≡ old.entries.items ++ mail

-- nothing is changed but the room that there is
pub record IsAsItWas (old new : Standing) : Type 0 where
  pub rest : new.rest.items ≡ old.rest.items
  pub base : new.base ≡ old.base
  pub low : new.low ≡ old.low
  pub dead : new.dead ≡ old.dead
  pub next : new.next ≡ old.next
  pub totals : new.totals.items ≡ old.totals.items
  pub entries : new.entries.items ≡ old.entries.items

-- the rows that are kept begin at the first place
pub record Closes (old new : Standing) : Type 0 where
  pub rest : new.rest.items ≡ old.rest.items
  pub base : new.base ≡ old.base
  pub low : new.low ≡ old.low
  pub dead : new.dead ≡ 0
  pub next : new.next + old.dead ≡ old.next
  pub totals : new.totals.items ≡ drop old.dead old.totals.items
  pub entries : new.entries.items ≡ drop (old.dead * width_of old) old.entries.items

-- so many units pass the row behind the position
pub record IsPassed (goal : ℕ) (s : Standing) : Type 0 where
  pub there : s.next < end_of s
  pub within : s.base + total_at s s.next ≤ goal

-- so many units have left, and among them is all of the first row that is kept
pub record HasLeft (gone : ℕ) (s : Standing) : Type 0 where
  pub there : s.dead < s.next
  pub within : s.low + total_at s s.dead ≤ gone

-- the rest is less by so much
pub record Loses (old new : Standing) (left : List ℕ) : Type 0 where
  pub rows : SameRows old new
  pub next : new.next ≡ old.next
  pub base : new.base ≡ old.base
  pub rest : (i : ℕ) → i < width_of old → slice_index new.rest.items i ≡ (slice_index old.rest.items i + (2 ^ 32 - slice_index left i)) % 2 ^ 32
  pub small : (i : ℕ) → slice_index left i < 2 ^ 32
  pub low : new.low ≡ old.low
  pub dead : new.dead ≡ old.dead
