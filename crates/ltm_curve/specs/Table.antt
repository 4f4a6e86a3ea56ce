-- The counts of a value of Curves, as a function of group, destination and boundary.
use Rattle.std.specs.Prelude.{◌≡◌, ◌≢◌, ℕ, ◌+◌, ◌*◌, ◌<◌, ◌≤◌, ◌⊎◌, List, slice_index}
use Rattle.ltm_curve.specs.Counts.{Counts, total}
use Rattle.ltm_curve.specs.declared.curves.Curves.{Curves}

abbrev pub groups_of : Curves → ℕ
groups_of c = c.groups

abbrev pub destinations_of : Curves → ℕ
destinations_of c = c.destinations

abbrev pub slots_of : Curves → ℕ
slots_of c = c.slots

-- for how many slots there is room
abbrev pub room_of : Curves → ℕ
room_of c = c.room

-- the place of a count: all counts of one boundary lie side by side
abbrev pub place : Curves → ℕ → ℕ → ℕ → ℕ
place c group destination boundary = (boundary * c.groups + group) * c.destinations + destination

-- the count of a group, a destination and a boundary
unfoldable pub counts_of : Curves → Counts
counts_of c group destination boundary = slice_index c.counts.items (place c group destination boundary)

-- the total of a group at a boundary
abbrev pub total_of : Curves → ℕ → ℕ → ℕ
total_of c group = total (destinations_of c) (counts_of c group)

-- so many groups, destinations and slots
pub record HasShape (c : Curves) (groups destinations slots : ℕ) : Type 0 where
  pub same_groups : groups_of c ≡ groups
  pub same_destinations : destinations_of c ≡ destinations
  pub same_slots : slots_of c ≡ slots

pub record SameShape (a b : Curves) : Type 0 where
  pub groups : groups_of a ≡ groups_of b
  pub destinations : destinations_of a ≡ destinations_of b
  pub slots : slots_of a ≡ slots_of b

-- the curves have such a count
pub record IsIn (c : Curves) (group destination boundary : ℕ) : Type 0 where
  pub is_group : group < groups_of c
  pub is_destination : destination < destinations_of c
  pub is_boundary : boundary ≤ slots_of c

-- all counts are 0
abbrev pub IsEmpty : Curves → Type 0
IsEmpty c = (g d k : ℕ) → IsIn c g d k → counts_of c g d k ≡ 0

-- one count is set, and no other
pub record Sets (old new : Curves) (group destination boundary count : ℕ) : Type 0 where
  pub shape : SameShape new old
  pub here : counts_of new group destination boundary ≡ count
  pub others : (g d k : ℕ) → IsIn old g d k → (g ≢ group) ⊎ ((d ≢ destination) ⊎ (k ≢ boundary)) → counts_of new g d k ≡ counts_of old g d k

-- the counts of one group are set at one boundary, and no other
pub record SetsRow (old new : Curves) (group boundary : ℕ) (counts : List ℕ) : Type 0 where
  pub shape : SameShape new old
  pub here : (d : ℕ) → d < destinations_of old → counts_of new group d boundary ≡ slice_index counts d
  pub others : (g d k : ℕ) → IsIn old g d k → (g ≢ group) ⊎ (k ≢ boundary) → counts_of new g d k ≡ counts_of old g d k

-- amounts are added to the counts of one group at one boundary, and no other count changes
pub record AddsRow (old new : Curves) (group boundary : ℕ) (amounts : List ℕ) : Type 0 where
  pub shape : SameShape new old
  pub here : (d : ℕ) → d < destinations_of old → counts_of new group d boundary ≡ counts_of old group d boundary + slice_index amounts d
  pub others : (g d k : ℕ) → IsIn old g d k → (g ≢ group) ⊎ (k ≢ boundary) → counts_of new g d k ≡ counts_of old g d k

-- the counts of a boundary stand also at the next one, and no other count is changed
pub record Carries (old new : Curves) (boundary : ℕ) : Type 0 where
  pub shape : SameShape new old
  pub next : (g d : ℕ) → g < groups_of old → d < destinations_of old → counts_of new g d (boundary + 1) ≡ counts_of old g d boundary
  pub others : (g d k : ℕ) → IsIn old g d k → k ≢ boundary + 1 → counts_of new g d k ≡ counts_of old g d k
