-- Active and claimed pairs.
use Rattle.std.specs.Prelude.{◌≡◌, ℕ, ◌+◌, ◌<◌, ◌≤◌, ◌==◌, ◌&&◌, ◌||◌, not, nat_le, nat_lt, Bool, true, false}
use Rattle.ltm_marks.specs.Marks.{width_of, rows_of, room_of, is_marked}
use Rattle.ltm_frontier.specs.Claims.{has_claim, count_in}
use Rattle.ltm_frontier.specs.declared.frontier.Frontier.{Frontier}

-- how many nodes there are
abbrev pub nodes_in : Frontier → ℕ
nodes_in f = width_of f.active

-- how many slots there are
abbrev pub slots_in : Frontier → ℕ
slots_in f = rows_of f.active

-- for how many slots there is room
abbrev pub slot_room : Frontier → ℕ
slot_room f = room_of f.active

-- whether the pair is active
abbrev pub is_active : Frontier → ℕ → ℕ → Bool
is_active f u t = is_marked f.active u t

-- whether the pair is claimed
abbrev pub is_claimed : Frontier → ℕ → ℕ → Bool
is_claimed f u t = has_claim f.claims u t

-- how many pairs are claimed: all claims are of one slot, so these are the nodes with a claim
abbrev pub claims_of : Frontier → ℕ
claims_of f = count_in f.claims

-- all claims are of the slot
abbrev pub ClaimsAreOf : Frontier → ℕ → Type 0
ClaimsAreOf f t = (w v : ℕ) → w < nodes_in f → is_claimed f w v ≡ true → v ≡ t

-- neither active nor claimed
abbrev pub IsIdle : Frontier → ℕ → ℕ → Type 0
IsIdle f u t = (is_active f u t ≡ false) × (is_claimed f u t ≡ false)

-- every pair is idle
abbrev pub AllIdle : Frontier → Type 0
AllIdle f = (u t : ℕ) → u < nodes_in f → t < slots_in f → IsIdle f u t

-- the least slot of a pair that is not idle
pub record IsFront (f : Frontier) (t : ℕ) : Type 0 where
  pub is_slot : t < slots_in f
  pub before : (u v : ℕ) → u < nodes_in f → v < t → IsIdle f u v
  pub node : ℕ
  pub is_node : node < nodes_in f
  pub busy : (is_active f node t || is_claimed f node t) ≡ true

-- no pair of an earlier slot is active
abbrev pub NoneBefore : Frontier → ℕ → Type 0
NoneBefore f end = (u t : ℕ) → u < nodes_in f → t < end → is_active f u t ≡ false

-- the first active pair before an end, slot after slot
pub record IsFirst (f : Frontier) (end t u : ℕ) : Type 0 where
  pub inside : t < end
  pub before : NoneBefore f t
  pub is_node : u < nodes_in f
  pub active : is_active f u t ≡ true
  pub least : (w : ℕ) → w < u → is_active f w t ≡ false

-- the least slot of a pair that is not idle, and a node below which no pair of it is active
pub record IsFrontFrom (f : Frontier) (t u : ℕ) : Type 0 where
  pub front : IsFront f t
  pub passed : (w : ℕ) → w < nodes_in f → w < u → is_active f w t ≡ false

-- the first active pair of the front, where no pair is claimed
pub record IsFirstOfFront (f : Frontier) (t u : ℕ) : Type 0 where
  pub from : IsFrontFrom f t u
  pub unclaimed : claims_of f ≡ 0
  pub is_node : u < nodes_in f
  pub active : is_active f u t ≡ true

-- the least active node of a slot that is not below one
pub record IsNextActive (f : Frontier) (t from u : ℕ) : Type 0 where
  pub least : from ≤ u
  pub is_node : u < nodes_in f
  pub active : is_active f u t ≡ true
  pub before : (w : ℕ) → from ≤ w → w < u → is_active f w t ≡ false

-- no node of a slot is active from one on
abbrev pub NoneActiveIn : Frontier → ℕ → ℕ → Type 0
NoneActiveIn f t from = (w : ℕ) → from ≤ w → w < nodes_in f → is_active f w t ≡ false

-- nodes, slots and room stay
pub record SameSize (old new : Frontier) : Type 0 where
  pub nodes : nodes_in new ≡ nodes_in old
  pub slots : slots_in new ≡ slots_in old
  pub room : slot_room new ≡ slot_room old

-- the pairs that are claimed stay, and their number
pub record SameClaims (old new : Frontier) : Type 0 where
  pub pairs : (u t : ℕ) → is_claimed new u t ≡ is_claimed old u t
  pub count : claims_of new ≡ claims_of old

-- the one pair
abbrev pub is_pair : ℕ → ℕ → ℕ → ℕ → Bool
is_pair u t w v = (w == u) && (v == t)

-- the pairs of a node in some slots, the last not included
abbrev pub in_slots : ℕ → ℕ → ℕ → ℕ → ℕ → Bool
in_slots u from to w v = (w == u) && (nat_le from v && nat_lt v to)

-- these pairs are made active, but for those that are claimed, and no other changes
pub record Activates (old new : Frontier) (which : ℕ → ℕ → Bool) : Type 0 where
  pub size : SameSize old new
  pub claims : SameClaims old new
  pub active : (w v : ℕ) → w < nodes_in old → v < slots_in old → is_active new w v ≡ (is_active old w v || (which w v && not (is_claimed old w v)))

-- the pair is no longer active, and no other changes
pub record Deactivates (old new : Frontier) (u t : ℕ) : Type 0 where
  pub size : SameSize old new
  pub claims : SameClaims old new
  pub active : (w v : ℕ) → w < nodes_in old → v < slots_in old → is_active new w v ≡ (is_active old w v && not (is_pair u t w v))

-- the pair, which was active, is claimed, and no other changes
pub record ClaimsPair (old new : Frontier) (u t : ℕ) : Type 0 where
  pub size : SameSize old new
  pub count : claims_of new ≡ claims_of old + 1
  pub claimed : (w v : ℕ) → w < nodes_in old → is_claimed new w v ≡ (is_claimed old w v || is_pair u t w v)
  pub active : (w v : ℕ) → w < nodes_in old → v < slots_in old → is_active new w v ≡ (is_active old w v && not (is_pair u t w v))

-- the pair, which was claimed, is neither claimed nor active, and no other changes
pub record Releases (old new : Frontier) (u t : ℕ) : Type 0 where
  pub size : SameSize old new
  pub count : claims_of new + 1 ≡ claims_of old
  pub claimed : (w v : ℕ) → w < nodes_in old → is_claimed new w v ≡ (is_claimed old w v && not (is_pair u t w v))
  pub active : (w v : ℕ) → w < nodes_in old → v < slots_in old → is_active new w v ≡ is_active old w v

-- each claimed pair is made active, and no other changes
pub record Voids (old new : Frontier) : Type 0 where
  pub size : SameSize old new
  pub none : (w v : ℕ) → w < nodes_in old → is_claimed new w v ≡ false
  pub count : claims_of new ≡ 0
  pub active : (w v : ℕ) → w < nodes_in old → v < slots_in old → is_active new w v ≡ (is_active old w v || is_claimed old w v)

-- active and claimed pairs stay
pub record SamePairs (old new : Frontier) : Type 0 where
  pub nodes : nodes_in new ≡ nodes_in old
  pub claims : SameClaims old new
  pub active : (u t : ℕ) → is_active new u t ≡ is_active old u t
