-- The claims that are out, all of one slot.
use Rattle.std.specs.Prelude.{◌≡◌, ◌≢◌, ℕ, ◌+◌, ◌<◌, ◌==◌, ◌&&◌, ◌||◌, nat_lt, Bool, true, false}
use Rattle.ltm_units.specs.Sums.{sum_below}
use Rattle.ltm_marks.specs.declared.marks.Marks.{Marks}
use Rattle.ltm_marks.specs.Marks.{width_of, rows_of, room_of, is_marked}
use Rattle.ltm_frontier.specs.Ones.{one_if}
use Rattle.ltm_frontier.specs.declared.claims.Claims.{Claims}

-- for how many nodes there is room
abbrev pub width : Claims → ℕ
width c = width_of c.nodes

-- the slot of the claims
abbrev pub slot_in : Claims → ℕ
slot_in c = c.slot

-- whether a pair of the node is claimed
abbrev pub has_node : Claims → ℕ → Bool
has_node c u = is_marked c.nodes u 0

-- whether the pair is claimed
abbrev pub has_claim : Claims → ℕ → ℕ → Bool
has_claim c u t = (t == c.slot) && is_marked c.nodes u 0

-- how many nodes have a claimed pair
abbrev pub count_in : Claims → ℕ
count_in c = sum_below (width_of c.nodes) (λ u. one_if (is_marked c.nodes u 0))

-- no pair is claimed
abbrev pub NoneClaimed : Claims → Type 0
NoneClaimed c = (u : ℕ) → u < width c → has_node c u ≡ false

-- the claimed pairs of the nodes below one are marked, and no other mark changes
pub record AddsClaims (c : Claims) (old new : Marks) (below : ℕ) : Type 0 where
  pub width : width_of new ≡ width_of old
  pub rows : rows_of new ≡ rows_of old
  pub room : room_of new ≡ room_of old
  pub marks : (u t : ℕ) → u < width_of old → t < rows_of old → is_marked new u t ≡ (is_marked old u t || (has_claim c u t && nat_lt u below))

-- one more pair is claimed
pub record PutsClaim (old new : Claims) (u t : ℕ) : Type 0 where
  pub nodes : width new ≡ width old
  pub slot : slot_in new ≡ t
  pub count : count_in new ≡ count_in old + 1
  pub here : has_node new u ≡ true
  pub others : (w : ℕ) → w < width old → w ≢ u → has_node new w ≡ has_node old w

-- one pair is no longer claimed
pub record TakesClaim (old new : Claims) (u : ℕ) : Type 0 where
  pub nodes : width new ≡ width old
  pub slot : slot_in new ≡ slot_in old
  pub count : count_in new + 1 ≡ count_in old
  pub here : has_node new u ≡ false
  pub others : (w : ℕ) → w < width old → w ≢ u → has_node new w ≡ has_node old w
